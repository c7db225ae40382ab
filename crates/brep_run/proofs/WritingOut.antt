-- A name that is opened, written and ended has its text; one whose writing is stopped has a front of it.
use Rattle.std.specs.Prelude.{◌<◌, ◌^◌}
use Rattle.std.proofs.Common.{◌≡◌, ℕ, inl, inr, IsTrue, true, false, List, []}
use Rattle.std.proofs.Common.{length, take, Some, sym, ap, subst, ◌∙◌, arith}
use Rattle.std.proofs.lemmas.List.{take_all}
use Rattle.std.proofs.lemmas.Bool.{cases_eq}
use Rattle.brep_desk.specs.Shown.{writing, Shown, Tells, AreTold, ChangesOnly, Same}
use Rattle.brep_desk.specs.Calls.{BeginsWriting, Ends, EndsName}
use Rattle.brep_desk.specs.Transfers.{Appended, NoMoreOpen}
use Rattle.byte_sink.specs.Sending.{counted_on}
use Rattle.history_text.specs.Sending.{counted}
use Rattle.brep_run.specs.Copy.{IsCountedPrefix, OutWritten, PrefixWritten, StoppedAt}

module _ (t : Tells) (told : AreTold t) (a b d : Shown) (name : List ℕ) (c : ℕ) (text : List ℕ) (n : ℕ)
    (begins : BeginsWriting t a b name c) (app : Appended t b d c text n) where
  pub front : IsTrue t.written → ChangesOnly a.written d.written name (Some (take n text))
  front w =
      let o = told.ended (told.written w) in
      let one = begins.written w in
      let two = app.written w name [] ((begins.opened o).here) one.here in
      record { here = two.here; others = λ k other. two.others k other ∙ one.others k other }

  pub not_ended : IsTrue t.ended → ChangesOnly a.ended d.ended name false
  not_ended e = record {
    here = ap (λ f. f name) app.ended ∙ (begins.ended e).here;
    others = λ k other. ap (λ f. f k) app.ended ∙ (begins.ended e).others k other;
  }

  pub stopped_at : StoppedAt t a d name text n
  stopped_at = record { written = front; ended = not_ended }

  pub part_then : PrefixWritten t a d name text n
  part_then = record { held = app.held ∙ begins.held; fits = app.fits; written = inr stopped_at }

  -- a call that failed after it changed nothing
  pub part_kept : (e : Shown) → Same d e → PrefixWritten t a e name text n
  part_kept e same = record {
    held = same.held ∙ (app.held ∙ begins.held);
    fits = app.fits;
    written = inr (record {
      written = λ w. subst (λ f. ChangesOnly a.written f name (Some (take n text))) (sym same.written) (front w);
      ended = λ w. subst (λ f. ChangesOnly a.ended f name false) (sym same.ended) (not_ended w);
    });
  }

  pub ended_then : (e : Shown) → Ends t d e c → IsTrue t.ended → ChangesOnly a.ended e.ended name true
  ended_then e ends w =
      let o = told.ended w in
      let use_is : d.opened c ≡ writing name = ap (λ f. f c) app.opened ∙ (begins.opened o).here in
      let last : ChangesOnly d.ended e.ended name true =
      subst (λ u. EndsName u d.ended e.ended) use_is (ends.ended w) in
      record { here = last.here; others = λ k other. last.others k other ∙ (not_ended w).others k other }

  pub closed_then : (e : Shown) → Ends t d e c → IsTrue t.opened → NoMoreOpen a e
  closed_then e ends o k =
      elim (cases_eq k c) [
        | inl same ↦ inr (ap e.opened same ∙ (ends.opened o).here)
        | inr other ↦ inl ((ends.opened o).others k other ∙ ap (λ f. f k) app.opened ∙ (begins.opened o).others k other)
      ]

  pub whole_then : (e : Shown) → n ≡ length text → Ends t d e c → OutWritten t a e name text
  whole_then e all ends = record {
    held = ends.held ∙ app.held ∙ begins.held;
    written = λ w. (let f = front w in
        let full : take n text ≡ text = take_all n text (omega (arith, all)) in
        record {
          here = ap (λ g. g name) ends.written ∙ f.here
              ∙ ap Some full;
          others = λ k other. ap (λ g. g k) ends.written ∙ f.others k other;
        });
    ended = ended_then e ends;
    channels = closed_then e ends;
  }

-- a count is told up to the last number of 64 bits
pub counted-told : (count taken : ℕ) → taken ≡ counted_on 0 count → taken ≡ counted count
counted-told count taken told = omega (arith, told)

-- of a text of fewer bytes than 2 ^ 64 each count is told as it is
pub prefix_counted : (t : Tells) (a b : Shown) (name text : List ℕ) (taken : ℕ) → length text < 2 ^ 64
    → IsCountedPrefix t a b name text taken → PrefixWritten t a b name text taken
prefix_counted t a b name text taken few (count, told, part) =
    let fits = part.fits in
    let same : count ≡ taken = omega (arith, fits, few, told) in
    subst (λ n. PrefixWritten t a b name text n) same part
