-- What an explorer answers, and what it is still to tell.
use Rattle.std.proofs.Common.{◌≡◌, ◌∙◌, refl, sym, ap, subst, zero, suc}
use Rattle.std.specs.Prelude.{ℕ, Bool, true, false, nat_lt, List, [], ◌∷◌, length}
use Rattle.std.specs.Prelude.{Option, None, Some, Ok, Err, if◌then◌else◌}
use Rattle.std.specs.Option.{option_map, option_map_or, option_or}
use Rattle.std.specs.List.{filter}
use Rattle.orientation.specs.Turns.{sign_of}
use Rattle.location_words.specs.declared.pair.Pair.{Pair}
use Rattle.location_words.specs.declared.fault.WordFault.{WordFault}
use Rattle.location_words.specs.declared.fault.WordFault.TheVariants as word_faults
use Rattle.location_words.specs.Faults.{fault_of, large_power}
use Rattle.location_words.specs.Pairs.{most_pairs}
use Rattle.expansion_laws.specs.Trees.{origin}
use Rattle.shape_pool.specs.Rows.{Row}
use Rattle.shape_pool.specs.Laws.{IsSound}
use Rattle.explorer.specs.declared.found.Found.{Found}
use Rattle.explorer.specs.declared.found.WordLimit.{WordLimit}
use Rattle.explorer.specs.Walks.{Occurrence}
use Rattle.explorer.specs.Going.{first_of, found, limit_of, past, Coming, IsAnswer, IsGiven}
use Rattle.shape_listing.specs.declared.fault.ListingFault.{ListingFault}
use Rattle.shape_listing.specs.Lines.{line_of, occurrence_line}
use Rattle.shape_listing.specs.Causes.{entered_to, of_limit, of_word, words_due, IsDue}
use Rattle.shape_listing.specs.ByNumber.{found_line}
use Rattle.shape_listing.proofs.LineLaws.{origin-of}

-- ---- a limit that a word passes
no-memory : (w : List Pair) → fault_of w ≡ Some word_faults.NoMemory → ⊥
no-memory w e = go (nat_lt most_pairs (length w)) (large_power w) e
  where
    go : (b : Bool) (p : Option ℕ)
        → (if b then Some (word_faults.Pairs (length w)) else option_map word_faults.Power p)
        ≡ Some word_faults.NoMemory → ⊥
    go true p h = absurd cc
    go false None h = absurd cc
    go false (Some n) h = absurd cc

limit-due : (w : List Pair) (f : WordFault) → fault_of w ≡ Some f → (rest : Option ListingFault)
    → IsDue (option_or (Some (of_word f)) rest) (of_limit (limit_of f))
limit-due w (word_faults.Pairs n) e rest = refl
limit-due w (word_faults.Power n) e rest = refl
limit-due w word_faults.NoMemory e rest = absurd (no-memory w e)

module _ (wanted : Occurrence → Bool) where
  pub entered-none : (os : List Occurrence) → entered_to wanted 0 os ≡ []
  entered-none [] = refl
  entered-none (o ∷ os) = refl

  -- ---- one that is passed by
  module _ (p : Occurrence) (os : List Occurrence) (within : fault_of p.here.word ≡ None) where
    due-next : (n : ℕ) → words_due (entered_to wanted (suc n) (p ∷ os))
        ≡ words_due (entered_to wanted (if wanted p then n else suc n) os)
    due-next n = ap
        (λ o. option_or (option_map of_word o) (words_due (entered_to wanted (if wanted p then n else suc n) os)))
        within

  -- ---- an occurrence is given
  pub record Gives (os : List Occurrence) (table : List (List Pair)) (rows : List Row) (f : Found) (word : List Pair)
      (rest : List Occurrence) : Type 0 where
    pub one : Occurrence
    pub given : IsGiven table rows word one f
    pub wanted_are : filter wanted os ≡ one ∷ filter wanted rest
    pub due_is : (n : ℕ) → words_due (entered_to wanted (suc n) os) ≡ words_due (entered_to wanted n rest)

  -- the answer to what is left, by the fault of its first and whether that is wanted
  abbrev first-by : Occurrence → List Occurrence → Option WordFault → Bool → Coming
  first-by p os q b = option_map_or (λ x. past (limit_of x)) q (if b then found p os else first_of wanted os)

  module _ (table : List (List Pair)) (rows : List Row) (word : List Pair) (rest : List Occurrence) where
    gives-by : (f : Found) (p : Occurrence) (os : List Occurrence)
        → (IsAnswer table rows (first_of wanted os) (Ok (Some f)) word rest → Gives os table rows f word rest)
        → (q : Option WordFault) → fault_of p.here.word ≡ q → (b : Bool) → wanted p ≡ b
        → IsAnswer table rows (first-by p os q b) (Ok (Some f)) word rest → Gives (p ∷ os) table rows f word rest
    gives-by f p os again (Some x) e b w a = absurd a
    gives-by f p os again None e true w a = record {
      one = p;
      given = a.0;
      wanted_are = ap (λ t. if t then p ∷ filter wanted os else filter wanted os) w
          ∙ ap (λ l. p ∷ filter wanted l) (sym a.1);
      due_is = λ n. due-next p os e n
          ∙ ap (λ t. words_due (entered_to wanted (if t then n else suc n) os)) w
          ∙ ap (λ l. words_due (entered_to wanted n l)) (sym a.1);
    }
    gives-by f p os again None e false w a = let r = again a in record {
      one = r.one;
      given = r.given;
      wanted_are = ap (λ t. if t then p ∷ filter wanted os else filter wanted os) w ∙ r.wanted_are;
      due_is = λ n. due-next p os e n
          ∙ ap (λ t. words_due (entered_to wanted (if t then n else suc n) os)) w
          ∙ r.due_is n;
    }

    pub gives : (f : Found) (os : List Occurrence) → IsAnswer table rows (first_of wanted os) (Ok (Some f)) word rest
        → Gives os table rows f word rest
    gives f [] h = absurd h
    gives f (p ∷ os) h = gives-by f p os (gives f os) (fault_of p.here.word) refl (wanted p) refl h

    -- ---- a word is past its limit
    stops-by : (l : WordLimit) (p : Occurrence) (os : List Occurrence) (n : ℕ)
        → (IsAnswer table rows (first_of wanted os) (Err l) word rest
        → IsDue (words_due (entered_to wanted (suc n) os)) (of_limit l))
        → (q : Option WordFault) → fault_of p.here.word ≡ q → (b : Bool) → wanted p ≡ b
        → IsAnswer table rows (first-by p os q b) (Err l) word rest
        → IsDue (words_due (entered_to wanted (suc n) (p ∷ os))) (of_limit l)
    stops-by l p os n again (Some x) e b w a =
        subst (λ o. IsDue o (of_limit l))
        (ap (λ o. option_or (option_map of_word o)
        (words_due (entered_to wanted (if wanted p then n else suc n) os))) (sym e))
        (subst (λ m. IsDue (option_or (Some (of_word x))
        (words_due (entered_to wanted (if wanted p then n else suc n) os))) (of_limit m)) (sym a)
        (limit-due p.here.word x e (words_due (entered_to wanted (if wanted p then n else suc n) os))))
    stops-by l p os n again None e true w a = absurd a
    stops-by l p os n again None e false w a =
        subst (λ o. IsDue o (of_limit l))
        (sym (due-next p os e n ∙ ap (λ t. words_due (entered_to wanted (if t then n else suc n) os)) w))
        (again a)

    pub stops : (l : WordLimit) (os : List Occurrence) → IsAnswer table rows (first_of wanted os) (Err l) word rest
        → (n : ℕ) → IsDue (words_due (entered_to wanted (suc n) os)) (of_limit l)
    stops l [] h n = absurd h
    stops l (p ∷ os) h n =
        stops-by l p os n (λ a. stops l os a n) (fault_of p.here.word) refl (wanted p) refl h

    -- ---- nothing is left
    pub record Ends (os : List Occurrence) : Type 0 where
      pub none_wanted : filter wanted os ≡ []
      pub none_due : (n : ℕ) → words_due (entered_to wanted n os) ≡ None

    none-due-by : (p : Occurrence) (os : List Occurrence) → fault_of p.here.word ≡ None → wanted p ≡ false → Ends os
        → (n : ℕ) → words_due (entered_to wanted n (p ∷ os)) ≡ None
    none-due-by p os e w r zero = refl
    none-due-by p os e w r (suc n) = due-next p os e n
        ∙ ap (λ t. words_due (entered_to wanted (if t then n else suc n) os)) w
        ∙ r.none_due (suc n)

    ends-by : (p : Occurrence) (os : List Occurrence)
        → (IsAnswer table rows (first_of wanted os) (Ok None) word rest → Ends os)
        → (q : Option WordFault) → fault_of p.here.word ≡ q → (b : Bool) → wanted p ≡ b
        → IsAnswer table rows (first-by p os q b) (Ok None) word rest → Ends (p ∷ os)
    ends-by p os again (Some x) e b w a = absurd a
    ends-by p os again None e true w a = absurd a
    ends-by p os again None e false w a = let r = again a in record {
      none_wanted = ap (λ t. if t then p ∷ filter wanted os else filter wanted os) w ∙ r.none_wanted;
      none_due = none-due-by p os e w r;
    }

    pub ends : (os : List Occurrence) → IsAnswer table rows (first_of wanted os) (Ok None) word rest → Ends os
    ends [] h = record { none_wanted = refl; none_due = λ n. refl }
    ends (p ∷ os) h = ends-by p os (ends os) (fault_of p.here.word) refl (wanted p) refl h

-- ---- the line of what is given
pub line-given : (table : List (List Pair)) (rows : List Row) → IsSound rows → (word : List Pair) (o : Occurrence)
    (f : Found) → IsGiven table rows word o f → found_line rows f word ≡ occurrence_line o
line-given table rows sound word o f g = λ i.
    sign_of (g.turn i)
    ∷ line_of ((sym (origin-of rows sound table f.id.0 g.held) ∙ ap origin g.tree) i) (g.word_is i)
