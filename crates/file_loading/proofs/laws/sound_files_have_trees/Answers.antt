use Rattle.file_loading.proofs.SoundFiles.{sound-file}
use Rattle.file_loading.proofs.laws.sound_files_have_trees.Goals as goal

pub returns : goal.returns
returns c = λ f sound. sound-file f sound
