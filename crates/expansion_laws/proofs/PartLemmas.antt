-- The parts of a derivation: what a part gives and refuses, by its own parts.
use Rattle.std.proofs.Common.{◌≡◌, ◌<◌, ◌≤◌, ◌-◌, refl, sym, ◌∙◌, ap, subst, arith}
use Rattle.std.proofs.lemmas.List.{append-nil, append_assoc}
use Rattle.std.specs.Prelude.{ℕ, zero, suc, Bool, true, false, if◌then◌else◌}
use Rattle.std.specs.Prelude.{Option, None, Some, Ok, Err, List, [], ◌∷◌, ◌++◌, map}
use Rattle.std.specs.List.{flat_map}
use Rattle.std.specs.Option.{option_map}
use Rattle.location_words.specs.declared.pair.Pair.{Pair}
use Rattle.location_words.specs.Pairs.{mul}
use Rattle.location_words.specs.Faults.{fault_of}
use Rattle.expansion_laws.specs.declared.fault.ExpandFault.{ExpandFault}
use Rattle.expansion_laws.specs.declared.fault.ExpandFault.TheVariants.{TooBig}
use Rattle.expansion_laws.specs.Trees.{Use}
use Rattle.expansion_laws.specs.Contexts.{Context, inside}
use Rattle.expansion_laws.specs.Requests.{Request, remove, replace, match_of}
use Rattle.expansion_laws.specs.Steps.{Step, is_entered, entered, new_use, onward}
use Rattle.expansion_laws.specs.Rewriting.{all_results, by_match, is_pruned, joined, rebuilt, remains, results_within}
use Rattle.expansion_laws.specs.SlowRewriting.{Test, a_visit, of_word, later_words, outcome}
use Rattle.expansion_laws.specs.SlowRewriting.{tests_by_match, tests_within, IsDueOutcome}
use Rattle.expansion_laws.specs.SlowParts.{IsDueWord, Pass, Fail, Part, part_of, part_of_all}
use Rattle.expansion_laws.specs.SlowParts.{part_of_match, part_of_remaining, part_of_act, Gives, Refuses}
use Rattle.expansion_laws.proofs.LeastLemmas.{results-next, joined-some}
use Rattle.expansion_laws.proofs.SlowLemmas.{outcome-append, outcome-refused, outcome-less, due-word, passed-word}

pub gives-less : (part : Part) (left : ℕ) (made : List Use) (rest : ℕ) → Gives part left made rest → rest ≤ left
gives-less part left made rest h = outcome-less (part.tests (suc left)) left rest (h.tested (suc left) (omega arith))

-- ---- a use
tests-next : (s : Step) (n : ℕ) (c : Context) (u : Use) →
    tests_within s (suc n) c u ≡ a_visit ∷ of_word (mul c.word u.word) ∷
    tests_by_match s (λ d v. tests_within s n d v) c u (match_of s.requests u.tree (inside c u))
unfolding tests_within
tests-next s n c u = refl

-- the tests of a use, where a visit is allowed and its word is within the limits, are those of its match
module _ (s : Step) (c : Context) (u : Use) (k : ℕ) where
  visited : (n : ℕ) → outcome (tests_within s (suc n) c u) (suc k) ≡
      outcome (of_word (mul c.word u.word) ∷ (part_of_match s c u).tests n) k
  visited n = ap (λ ts. outcome ts (suc k)) (tests-next s n c u)

  passed : fault_of (mul c.word u.word) ≡ None → (n : ℕ) →
      outcome (tests_within s (suc n) c u) (suc k) ≡ outcome ((part_of_match s c u).tests n) k
  passed e n = visited n ∙ passed-word (mul c.word u.word) ((part_of_match s c u).tests n) k e

  word-refused : (f : ExpandFault) → IsDueWord (fault_of (mul c.word u.word)) f → (n : ℕ) → suc k < n →
      IsDueOutcome (outcome (tests_within s n c u) (suc k)) f
  word-refused f h zero lt = absurd (omega (arith, lt))
  word-refused f h (suc n) lt =
      subst (λ r. IsDueOutcome r f) (sym (visited n))
      (due-word (mul c.word u.word) ((part_of_match s c u).tests n) k f h)

  match-refused : (f : ExpandFault) → fault_of (mul c.word u.word) ≡ None → Refuses (part_of_match s c u) k f →
      (n : ℕ) → suc k < n → IsDueOutcome (outcome (tests_within s n c u) (suc k)) f
  match-refused f e h zero lt = absurd (omega (arith, lt))
  match-refused f e h (suc n) lt = subst (λ r. IsDueOutcome r f) (sym (passed e n)) (h.due n (omega (arith, lt)))

  match-tested : (made : List Use) (rest : ℕ) → fault_of (mul c.word u.word) ≡ None →
      Gives (part_of_match s c u) k made rest → (n : ℕ) → suc k < n → outcome (tests_within s n c u) (suc k) ≡ Ok rest
  match-tested made rest e h zero lt = absurd (omega (arith, lt))
  match-tested made rest e h (suc n) lt = passed e n ∙ h.tested n (omega (arith, lt))

  match-found : (made : List Use) (rest : ℕ) → Gives (part_of_match s c u) k made rest → (n : ℕ) → suc k < n →
      results_within s n c u ≡ Some made
  match-found made rest h zero lt = absurd (omega (arith, lt))
  match-found made rest h (suc n) lt = results-next s n c u ∙ h.results n (omega (arith, lt))

module _ (s : Step) (c : Context) (u : Use) where
  no-visit : (n : ℕ) → 0 < n → outcome (tests_within s n c u) 0 ≡ Err TooBig
  no-visit zero lt = absurd (omega (arith, lt))
  no-visit (suc n) lt = ap (λ ts. outcome ts 0) (tests-next s n c u)

  pub use-too-big : (left : ℕ) → left ≡ 0 → Refuses (part_of s c u) left TooBig
  use-too-big left e = subst (λ l. Refuses (part_of s c u) l TooBig) (sym e) (record { due = no-visit })

  module _ (left : ℕ) (ne : left ≡ 0 → ⊥) where
    one-less : suc (left - 1) ≡ left
    one-less = omega (arith, ne)

    pub use-word : (f : ExpandFault) → IsDueWord (fault_of (mul c.word u.word)) f → Refuses (part_of s c u) left f
    use-word f h =
        subst (λ l. Refuses (part_of s c u) l f) one-less (record { due = word-refused s c u (left - 1) f h })

    pub use-refused : (f : ExpandFault) → fault_of (mul c.word u.word) ≡ None →
        Refuses (part_of_match s c u) (left - 1) f → Refuses (part_of s c u) left f
    use-refused f e h =
        subst (λ l. Refuses (part_of s c u) l f) one-less (record { due = match-refused s c u (left - 1) f e h })

    pub use-given : (made : List Use) (rest : ℕ) → fault_of (mul c.word u.word) ≡ None →
        Gives (part_of_match s c u) (left - 1) made rest → Gives (part_of s c u) left made rest
    use-given made rest e h =
        subst (λ l. Gives (part_of s c u) l made rest) one-less
        (record {
          results = match-found s c u (left - 1) made rest h;
          tested = match-tested s c u (left - 1) made rest e h;
        })

-- ---- by the match
module _ (s : Step) (c here : Context) (u : Use) (at : here ≡ inside c u) where
  abbrev by_request : Option Request → Part
  by_request m = record {
    found = λ n. by_match s (λ d v. results_within s n d v) c u m;
    tests = λ n. tests_by_match s (λ d v. tests_within s n d v) c u m;
  }

  pub match-remaining : match_of s.requests u.tree here ≡ None → part_of_match s c u ≡ part_of_remaining s here u
  match-remaining e =
      ap by_request (ap (match_of s.requests u.tree) (sym at) ∙ e) ∙ ap (λ d. part_of_remaining s d u) (sym at)

  pub match-act : (r : Request) → match_of s.requests u.tree here ≡ Some r →
      part_of_match s c u ≡ part_of_act s c u r.place r.act
  match-act r e = ap by_request (ap (match_of s.requests u.tree) (sym at) ∙ e)

pub removed-given : (s : Step) (c : Context) (u : Use) (place : Option (List Pair)) (left : ℕ) (made : List Use) →
    [] ≡ made → Gives (part_of_act s c u place remove) left made left
removed-given s c u place left made e = record { results = λ n lt. ap Some e; tested = λ n lt. refl }

-- ---- a use without a match
module _ (s : Step) (u : Use) (below : List Use) where
  pub remains-stopped : is_entered s u.tree ≡ false → remains s u below ≡ u ∷ []
  remains-stopped e = ap (λ b. if b then (if is_pruned s u.tree below then [] else rebuilt u below ∷ []) else u ∷ []) e

  remains-entered : (p : Bool) → is_entered s u.tree ≡ true → is_pruned s u.tree below ≡ p →
      remains s u below ≡ (if p then [] else rebuilt u below ∷ [])
  remains-entered p e f =
      ap (λ b. if b then (if is_pruned s u.tree below then [] else rebuilt u below ∷ []) else u ∷ []) e ∙
      ap (λ b. if b then [] else rebuilt u below ∷ []) f

  pub remains-pruned : is_entered s u.tree ≡ true → is_pruned s u.tree below ≡ true → remains s u below ≡ []
  remains-pruned = remains-entered true

  pub remains-rebuilt : is_entered s u.tree ≡ true → is_pruned s u.tree below ≡ false →
      remains s u below ≡ rebuilt u below ∷ []
  remains-rebuilt = remains-entered false

pub remaining-refused : (s : Step) (here : Context) (u : Use) (us : List Use) (left : ℕ) (f : ExpandFault) →
    us ≡ entered s u.tree →
    Refuses (part_of_all s here us) left f → Refuses (part_of_remaining s here u) left f
remaining-refused s here u us left f e h =
    let g = subst (λ l. Refuses (part_of_all s here l) left f) e h in record { due = g.due }

pub remaining-given : (s : Step) (here : Context) (u : Use) (us : List Use) (left : ℕ) (below made : List Use)
    (rest : ℕ) → us ≡ entered s u.tree → made ≡ remains s u below →
    Gives (part_of_all s here us) left below rest → Gives (part_of_remaining s here u) left made rest
remaining-given s here u us left below made rest e m h =
    let g = subst (λ l. Gives (part_of_all s here l) left below rest) e h in
    record {
      results = λ n lt. ap (option_map (remains s u)) (g.results n lt) ∙ ap Some (sym m);
      tested = g.tested;
    }

-- ---- a replace
module _ (s : Step) (c : Context) (u : Use) (place : Option (List Pair)) (by new : Use)
    (is : new ≡ new_use c u place by) (left : ℕ) where
  abbrev act_part : Part
  act_part = part_of_act s c u place (replace by)

  -- its tests, by the new use
  abbrev tests_on : Use → ℕ → List Test
  tests_on v n =
      of_word v.word ∷ map of_word (later_words s u.tree v) ++ flat_map (λ w. tests_within s n c w) (onward s u.tree v)

  on-new : (n : ℕ) → act_part.tests n ≡ tests_on new n
  on-new n = ap (λ v. tests_on v n) (sym is)

  pub act-word : (f : ExpandFault) → IsDueWord (fault_of (new_use c u place by).word) f → Refuses act_part left f
  act-word f h = record {
    due = λ n lt. due-word (new_use c u place by).word
        (map of_word (later_words s u.tree (new_use c u place by)) ++
        flat_map (λ w. tests_within s n c w) (onward s u.tree (new_use c u place by))) left f h;
  }

  module _ (within : fault_of (new_use c u place by).word ≡ None) where
    within-new : fault_of new.word ≡ None
    within-new = ap (λ (v : Use). fault_of v.word) is ∙ within

    on-words : (n : ℕ) → outcome (act_part.tests n) left ≡
        outcome (map of_word (later_words s u.tree new) ++ flat_map (λ w. tests_within s n c w) (onward s u.tree new))
        left
    on-words n =
        ap (λ ts. outcome ts left) (on-new n)
        ∙ passed-word new.word (map of_word (later_words s u.tree new) ++
        flat_map (λ w. tests_within s n c w) (onward s u.tree new)) left within-new

    pub act-later : (f : ExpandFault) → Fail (later_words s u.tree new) f → Refuses act_part left f
    act-later f h = record {
      due = λ n lt.
          subst (λ r. IsDueOutcome r f) (sym (on-words n))
          (outcome-refused (map of_word (later_words s u.tree new))
          (flat_map (λ w. tests_within s n c w) (onward s u.tree new)) left f (h.due left));
    }

    module _ (pass : Pass (later_words s u.tree new)) (us : List Use) (next : us ≡ onward s u.tree new) where
      on-next : (n : ℕ) → outcome (act_part.tests n) left ≡ outcome (flat_map (λ w. tests_within s n c w) us) left
      on-next n =
          on-words n
          ∙ outcome-append (map of_word (later_words s u.tree new))
          (flat_map (λ w. tests_within s n c w) (onward s u.tree new)) left left (pass.stays left)
          ∙ ap (λ l. outcome (flat_map (λ w. tests_within s n c w) l) left) (sym next)

      pub act-refused : (f : ExpandFault) → Refuses (part_of_all s c us) left f → Refuses act_part left f
      act-refused f h = record { due = λ n lt. subst (λ r. IsDueOutcome r f) (sym (on-next n)) (h.due n lt) }

      pub act-given : (made : List Use) (rest : ℕ) → Gives (part_of_all s c us) left made rest →
          Gives act_part left made rest
      act-given made rest h = record {
        results =
            λ n lt. ap (λ l. all_results (λ v. results_within s n c v) l) (ap (onward s u.tree) (sym is) ∙ sym next) ∙
            h.results n lt;
        tested = λ n lt. on-next n ∙ h.tested n lt;
      }

-- ---- uses one after another
all-push : (g : Use → Option (List Use)) (us : List Use) (v : Use) (made more : List Use) →
    all_results g us ≡ Some made → g v ≡ Some more → all_results g (us ++ v ∷ []) ≡ Some (made ++ more)
all-push g [] v made more e f =
    let none : [] ≡ made = cc in
    ap (λ o. joined o (Some [])) f ∙ ap Some (append-nil more ∙ ap (λ l. l ++ more) none)
all-push g (u ∷ us) v made more e f =
    let parts = joined-some (g u) (all_results g us) made e in
    (λ i. joined (parts.2 i) (all-push g us v parts.1 more parts.3 f i))
    ∙ ap Some (sym (append_assoc parts.0 parts.1 more) ∙ ap (λ l. l ++ more) parts.4)

flat-append : (g : Use → List Test) (us vs : List Use) → flat_map g (us ++ vs) ≡ flat_map g us ++ flat_map g vs
flat-append g [] vs = refl
flat-append g (u ∷ us) vs =
    ap (λ l. g u ++ l) (flat-append g us vs) ∙ sym (append_assoc (g u) (flat_map g us) (flat_map g vs))

pub none-given : (s : Step) (c : Context) (left : ℕ) (made : List Use) → [] ≡ made →
    Gives (part_of_all s c []) left made left
none-given s c left made e = record { results = λ n lt. ap Some e; tested = λ n lt. refl }

module _ (s : Step) (c : Context) (us : List Use) (v : Use) (left : ℕ) (made : List Use) (mid : ℕ)
    (h : Gives (part_of_all s c us) left made mid) where
  mid-less : mid ≤ left
  mid-less = gives-less (part_of_all s c us) left made mid h

  pub more-given : (more : List Use) (rest : ℕ) → Gives (part_of s c v) mid more rest →
      Gives (part_of_all s c (us ++ v ∷ [])) left (made ++ more) rest
  more-given more rest g = record {
    results =
        λ n lt. all-push (λ w. results_within s n c w) us v made more (h.results n lt)
        (g.results n (let le = mid-less in omega (arith, le, lt)));
    tested = λ n lt.
        ap (λ ts. outcome ts left) (flat-append (λ w. tests_within s n c w) us (v ∷ []))
        ∙ outcome-append (flat_map (λ w. tests_within s n c w) us) (tests_within s n c v ++ []) left mid (h.tested n lt)
        ∙ ap (λ ts. outcome ts mid) (append-nil (tests_within s n c v))
        ∙ g.tested n (let le = mid-less in omega (arith, le, lt));
  }

  pub more-refused : (others : List Use) (f : ExpandFault) → Refuses (part_of s c v) mid f →
      Refuses (part_of_all s c (us ++ v ∷ others)) left f
  more-refused others f g = record {
    due = λ n lt.
        subst (λ r. IsDueOutcome r f)
        (sym (ap (λ ts. outcome ts left) (flat-append (λ w. tests_within s n c w) us (v ∷ others))
        ∙ outcome-append (flat_map (λ w. tests_within s n c w) us)
        (tests_within s n c v ++ flat_map (λ w. tests_within s n c w) others) left mid (h.tested n lt)))
        (outcome-refused (tests_within s n c v) (flat_map (λ w. tests_within s n c w) others) mid f
        (g.due n (let le = mid-less in omega (arith, le, lt))));
  }
