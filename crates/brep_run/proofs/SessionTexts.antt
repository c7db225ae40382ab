-- The texts of the root that a session has left, and of the history of its steps, are those that are due.
use Rattle.std.proofs.Common.{◌≡◌, ◌<◌, refl, sym, ◌∙◌, ap, subst, arith}
use Rattle.std.specs.Prelude.{◌^◌, ℕ, List, length, map, reverse}
use Rattle.std.proofs.lemmas.List.{length-map, length-reverse}
use Rattle.expansion_laws.specs.Trees.{Use}
use Rattle.expansion_laws.specs.Written.{flat, IsWritten}
use Rattle.history_text.specs.declared.file.HistoryFile.{HistoryFile}
use Rattle.history_text.specs.HistoryText as history_text
use Rattle.shape_pool.specs.declared.node.UseOf.{UseOf}
use Rattle.shape_pool.specs.Laws.{word_in}
use Rattle.shape_pool.specs.Laws as pools
use Rattle.shape_pool.specs.Rows.{origin_at, tree_at}
use Rattle.step_history.specs.declared.history.StepHistory.{StepHistory}
use Rattle.step_history.specs.Numbered.{IsHeld, Tells, tree_by}
use Rattle.tshape_data.specs.Laws.{RenumberingKeepsParts}
use Rattle.written_heads.specs.Versions.{IsOutputOf}
use Rattle.written_history.specs.Numbered.{IsInNumbers, NumbersTellHistories}
use Rattle.written_locations.specs.Laws.{FurtherWordsAreDue, NumbersArePlaces, SectionsHold}
use Rattle.written_order.specs.Orders.{IsOrderOf}
use Rattle.brep_writer.specs.Copies.{CanBeWritten, IsTextFor, TextsStandForRoots}
use Rattle.brep_writer.specs.WrittenFile.{text_of}
use Rattle.file_loading.specs.Loading.{use_in}
use Rattle.location_table.specs.Words.{datums_of}
use Rattle.location_table.specs.Written.{IsOver}
use Rattle.session.specs.Standing.{IsUseHeld, Stands}
use Rattle.session.specs.States.{State, history_of, root_of}
use Rattle.session.specs.Views.{View}
use Rattle.brep_run.specs.Rewrite.{AreTextsOf}
use Rattle.brep_run.proofs.SessionRoots.{can-be-written, in-row, root-word}

-- the laws that are taken from below
pub record Laws : Type 0 where
  pub texts : TextsStandForRoots
  pub renumbering : RenumberingKeepsParts
  pub sections : SectionsHold
  pub numbers : NumbersArePlaces
  pub further : FurtherWordsAreDue
  pub written : (root : Use) → IsWritten root (flat root.tree)

pub output-is : (v : View) (s : State) → Stands v s → IsOutputOf v.file.version v.output
output-is v s stands = stands.version

module _ (v : View) (s : State) (stands : Stands v s) (pool : pools.IsSound v.rows) (laws : Laws)
    (tell : NumbersTellHistories v.rows) (small : length v.words < 2 ^ 57) (root : UseOf)
    (held : IsUseHeld v.words v.rows root) (root-is : use_in v.words v.rows root ≡ root_of v.file s)
    (order : List ℕ) (ordered : IsOrderOf v.rows root.id.0 order) (h : StepHistory) (h-held : IsHeld v.rows h)
    (tells : Tells (tree_by (word_in v.words) v.rows) h (history_of v.file s)) (told : HistoryFile)
    (in-numbers : IsInNumbers v.rows order h told) where
  abbrev at : Use
  at = use_in v.words v.rows root

  -- as many trees are written as origins are told
  countable : length (flat at.tree) < 10 ^ 18
  countable =
      let trees = ap length (ordered.trees v.words stands.stocked.loaded.table stands.stocked.loaded.places) in
      let many = length-map order (tree_at (word_in v.words) v.rows) in
      let origins = ap length in-numbers.origins in
      let turned = length-reverse (map (origin_at v.rows) order) in
      let each = length-map order (origin_at v.rows) in
      let few = in-numbers.ascends.written in
      omega (arith, trees, many, origins, turned, each, few)

  writable : CanBeWritten v.file (root_of v.file s)
  writable =
      let first = (laws.texts.copies v.file stands.sound).root_word in
      subst (CanBeWritten v.file) root-is
      (can-be-written v.file v.words v.rows s stands.stocked pool root held stands.sound stands.within
      laws.renumbering laws.sections laws.numbers laws.further (laws.written at) small countable
      (subst (λ (u : Use). IsOver (length (datums_of v.file.locations)) u.word) (sym root-is)
      (root-word v.file v.words v.rows first (reverse v.versions) s.steps stands.versions)))

  pub texts-are-due : (text : List ℕ) → text ≡ text_of v.file at v.output
      → AreTextsOf v.file s text (history_text.text_of told)
  texts-are-due text is =
      let written : text ≡ text_of v.file (root_of v.file s) s.output =
      is ∙ (λ i. text_of v.file (root-is i) (sym stands.output i)) in
      record {
        written = written;
        stands = subst (IsTextFor v.file (root_of v.file s) s.output) (sym written)
            (laws.texts.texts v.file (root_of v.file s) s.output stands.sound
            (subst (IsOutputOf v.file.version) (sym stands.output) (output-is v s stands)) writable);
        history = (
          told,
          refl,
          tell v.file v.words root.id.0 order s.steps h told
              (record {
                sound = stands.sound;
                loaded = stands.stocked.loaded;
                in_row = in-row v.file v.words v.rows (reverse v.versions) s.steps stands.versions;
                held = h-held;
                tells = tells;
              })
              ordered (sym (ap (λ (u : Use). u.tree) root-is)) in-numbers,
        );
      }
