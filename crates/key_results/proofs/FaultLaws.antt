-- Faults of words that are due.
use Rattle.std.proofs.Common.{List, Option}
use Rattle.location_words.specs.declared.pair.Pair.{Pair}
use Rattle.location_words.specs.declared.fault.WordFault.{WordFault}
use Rattle.location_words.specs.declared.fault.WordFault.TheVariants.{Pairs as TooManyPairs, Power as TooLarge}
use Rattle.location_words.specs.declared.fault.WordFault.TheVariants.{NoMemory as NoMemoryForWord}
use Rattle.location_words.specs.Faults.{fault_of, IsDueFault}
use Rattle.key_results.specs.declared.fault.ApplyFault.{ApplyFault}
use Rattle.key_results.specs.declared.fault.ApplyFault.TheVariants.{Limit, NoMemory}
use Rattle.key_results.specs.declared.fault.LimitKind.TheVariants.{FileBytes, ScriptBytes, ScriptLines}
use Rattle.key_results.specs.declared.fault.LimitKind.TheVariants.{Steps, Rank, Keys, WordPairs}
use Rattle.key_results.specs.declared.fault.LimitKind.TheVariants.{WordPower, Uses, Depth, Nodes, Pairs}
use Rattle.key_results.specs.Faults.{of_word, IsDueOfWord, IsDueAmong}

pub due-of-word : (due : Option WordFault) (f : WordFault) → IsDueFault due f → IsDueOfWord due (of_word f)
due-of-word due (TooManyPairs n) h = h
due-of-word due (TooLarge n) h = h
due-of-word due NoMemoryForWord h = tt

-- the fault of one of some words
pub due-among : (W : List Pair → Type 0) (w : List Pair) (fault : ApplyFault) → W w → IsDueOfWord (fault_of w) fault →
    IsDueAmong W fault
due-among W w (Limit WordPairs n) m d = (w, m, d)
due-among W w (Limit WordPower n) m d = (w, m, d)
due-among W w (Limit FileBytes n) m d = d
due-among W w (Limit ScriptBytes n) m d = d
due-among W w (Limit ScriptLines n) m d = d
due-among W w (Limit Steps n) m d = d
due-among W w (Limit Rank n) m d = d
due-among W w (Limit Keys n) m d = d
due-among W w (Limit Uses n) m d = d
due-among W w (Limit Depth n) m d = d
due-among W w (Limit Nodes n) m d = d
due-among W w (Limit Pairs n) m d = d
due-among W w NoMemory m d = tt

-- and of one of more words
pub among-more : (V W : List Pair → Type 0) (fault : ApplyFault) → ((w : List Pair) → V w → W w) → IsDueAmong V fault →
    IsDueAmong W fault
among-more V W (Limit WordPairs n) f d = (d.0, f d.0 d.1, d.2)
among-more V W (Limit WordPower n) f d = (d.0, f d.0 d.1, d.2)
among-more V W (Limit FileBytes n) f d = d
among-more V W (Limit ScriptBytes n) f d = d
among-more V W (Limit ScriptLines n) f d = d
among-more V W (Limit Steps n) f d = d
among-more V W (Limit Rank n) f d = d
among-more V W (Limit Keys n) f d = d
among-more V W (Limit Uses n) f d = d
among-more V W (Limit Depth n) f d = d
among-more V W (Limit Nodes n) f d = d
among-more V W (Limit Pairs n) f d = d
among-more V W NoMemory f d = tt
