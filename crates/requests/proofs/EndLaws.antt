-- The ends of edges by the tests that code makes.
use Rattle.std.proofs.Common.{◌≡◌, ◌∙◌, ◌++◌, ◌∷◌, [], ap, refl, sym, ℕ, Bool, true, false, List}
use Rattle.std.specs.Prelude.{◌||◌, filter, if◌then◌else◌}
use Rattle.std.specs.List.{list_any, flat_map}
use Rattle.std.proofs.lemmas.List.{append-nil}
use Rattle.orientation.specs.Rules.{is_above}
use Rattle.shape_pool.specs.Rows.{Row, kind_at}
use Rattle.shape_pool.specs.Laws.{ids_used}
use Rattle.requests.specs.declared.request.Request.{Request}
use Rattle.requests.specs.Numbered.{Table, is_for, is_plain, starts_plain, from_last_plain, live_at}
use Rattle.requests.specs.Readings.{ends_at, targets_at}
use Rattle.lists.proofs.Cases.{by_test}

or-false : (b : Bool) → (b || false) ≡ b
or-false true = refl
or-false false = refl

-- among live requests the first is unconditional where any is
plain-first : (rs : List Request) → list_any is_plain (from_last_plain rs) ≡ starts_plain (from_last_plain rs)
plain-first [] = refl
plain-first (r ∷ rs) = by_test (list_any is_plain rs)
    (λ t. ap (λ (b : Bool). list_any is_plain (if b then from_last_plain rs else r ∷ rs)) t ∙ plain-first rs ∙
    sym (ap (λ (b : Bool). starts_plain (if b then from_last_plain rs else r ∷ rs)) t))
    (λ f. ap (λ (b : Bool). list_any is_plain (if b then from_last_plain rs else r ∷ rs)) f ∙
    ap (λ (b : Bool). is_plain r || b) f ∙ or-false (is_plain r) ∙
    sym (ap (λ (b : Bool). starts_plain (if b then from_last_plain rs else r ∷ rs)) f))

module _ (rows : List Row) (t : Table) (i : ℕ) where
  abbrev pub by_requests : List ℕ
  by_requests = flat_map (λ (r : Request). targets_at rows i r.act) (live_at t.requests i)

  abbrev pub by_tests : Bool → Bool → List ℕ
  by_tests a b = by_requests ++ (if a then [] else (if b then ids_used rows i else []))

  tested : (a b : Bool) → starts_plain (live_at t.requests i) ≡ a → is_above t.rule.stop (kind_at rows i) ≡ b →
      ends_at rows t i ≡ by_tests a b
  tested a b e f =
      ap (λ (c : Bool). by_tests c (is_above t.rule.stop (kind_at rows i))) (plain-first (filter (is_for i) t.requests) ∙ e) ∙ ap (by_tests a) f

  pub ends-with : starts_plain (live_at t.requests i) ≡ false → is_above t.rule.stop (kind_at rows i) ≡ true →
      ends_at rows t i ≡ by_requests ++ ids_used rows i
  ends-with e f = tested false true e f

  pub ends-plain : starts_plain (live_at t.requests i) ≡ true → ends_at rows t i ≡ by_requests
  ends-plain e = tested true (is_above t.rule.stop (kind_at rows i)) e refl ∙ append-nil by_requests

  pub ends-stopped : starts_plain (live_at t.requests i) ≡ false → is_above t.rule.stop (kind_at rows i) ≡ false →
      ends_at rows t i ≡ by_requests
  ends-stopped e f = tested false false e f ∙ append-nil by_requests
