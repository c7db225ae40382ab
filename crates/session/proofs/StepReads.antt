-- What is asked by numbers is the state's step, in the reading by the table of words.
use Rattle.std.proofs.Common.{◌≡◌, ◌∙◌, ap, sym, refl, ℕ, List, [], length}
use Rattle.std.specs.Prelude.{slice_get, unwrap_or, Option, Some, None}
use Rattle.std.proofs.lemmas.List.Elements.{All-weaker}
use Rattle.lists.proofs.Entries.{All-place}
use Rattle.lists.proofs.Places.{at_place}
use Rattle.orientation.specs.declared.rule.Rule.{Rule}
use Rattle.location_words.specs.declared.pair.Pair.{Pair}
use Rattle.location_words.specs.Pairs.{IsHeldWord, IsWord}
use Rattle.location_words.specs.Tables.{IsTable}
use Rattle.expansion_laws.specs.Requests.{Request as TreeRequest}
use Rattle.expansion_laws.specs.Steps.{Step}
use Rattle.shape_pool.specs.Laws.{TellsBelow, word_in}
use Rattle.shape_pool.specs.Rows.{Row, HaveKinds}
use Rattle.requests.specs.declared.request.Request.{Request}
use Rattle.requests.specs.Numbered.{a_table}
use Rattle.requests.specs.Readings.{step_by, IsPlaceBelow, IsReading}
use Rattle.key_results.specs.Words.{ReadsWords}
use Rattle.reshape.specs.Readings.{Reads}
use Rattle.brep_file.specs.declared.file.File.{File}
use Rattle.file_loading.specs.Loading.{kind_of_record, IsLoadedFrom}
use Rattle.script_requests.specs.AsTrees.{IsWorded}
use Rattle.session.specs.States.{State, step_of}
use Rattle.session.specs.Standing.{IsAsked}

-- ---- words
module _ (words : List (List Pair)) (table : IsTable words) where
  read : (i : ℕ) (w : List Pair) → slice_get words i ≡ Some w → word_in words i ≡ w
  read i w e = ap (λ o. unwrap_or o []) e

  pub tells-words : TellsBelow (length words) (word_in words)
  tells-words a b la lb e =
      let x = at_place words a la in
      let y = at_place words b lb in
      let same : x.0 ≡ y.0 = sym (read a x.0 x.1) ∙ e ∙ read b y.0 y.1 in
      table.distinct a b x.0 x.1 (y.1 ∙ ap Some (sym same))

  is-word : (i : ℕ) (o : Option (List Pair)) → slice_get words i ≡ o → IsWord (unwrap_or o [])
  is-word i None e = refl
  is-word i (Some w) e = (All-place IsHeldWord words i w table.words e).is_word

  pub reads-words : ReadsWords (word_in words) words
  reads-words = record {
    words = λ i. is-word i (slice_get words i) refl;
    held = read;
  }

-- ---- requests
module _ (f : File) (words : List (List Pair)) (rows : List Row) (asked : List Request) (rule : Rule) (s : State)
    (is : IsAsked f words rows asked s) (ruled : s.rule ≡ rule) where
  abbrev a_step : List TreeRequest → Rule → Step
  a_step rs r = record { kind_of_origin = kind_of_record f; requests = rs; rule = r }

  pub step-is : step_by (word_in words) rows (kind_of_record f) (a_table asked rule) ≡ step_of f s
  step-is = ap (λ rs. a_step rs rule) (sym is.stands) ∙ ap (λ r. a_step s.requests r) (sym ruled)

  module _ (loaded : IsLoadedFrom f words rows) (kinds : HaveKinds rows (kind_of_record f)) where
    pub reading : IsReading rows asked (kind_of_record f) (word_in words) (length words)
    reading = record {
      kinds = kinds;
      placed = loaded.places;
      told = tells-words words loaded.table;
      places =
          All-weaker (IsWorded (length words)) (λ (r : Request). IsPlaceBelow (length words) r.place) (λ r h. h.0) asked
          is.worded;
    }

    pub reads : Reads rows words (kind_of_record f) (word_in words)
    reads = record { kinds = kinds; told = reads-words words loaded.table }
