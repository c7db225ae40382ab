-- A section is read exactly as it is spelled, where its entries are.
use Rattle.std.proofs.Common.{◌≡◌, ℕ, zero, suc, ◌≤◌, nat_le, List, [], ◌∷◌, ◌++◌, length, Ok, refl, sym, ap, subst}
use Rattle.std.proofs.Common.{◌∙◌, append_assoc, append-nil}
use Rattle.std.specs.List.{flat_map, AllByRecursion}
use Rattle.std.specs.Fmt.{decimal}
use Rattle.std.proofs.lemmas.Bool.{le-leb, leb-true}
use Rattle.brep_tokens.specs.declared.text.Token.{Token}
use Rattle.brep_tokens.specs.declared.fault.ReadCode.TheVariants as faults
use Rattle.entry_readers.specs.Reading.{Read, at_token, fault, number_at, word_at}
use Rattle.entry_readers.specs.Entries.{entries_from}
use Rattle.entry_readers.specs.Begins.{Begins, IsExact, IsSmall, FieldsAreExact}
use Rattle.lists.proofs.Results.{bind_ok, guard_ok, ok_is}
use Rattle.brep_file.specs.SectionReading.{within, count_at, heading_at, section_at}
use Rattle.brep_file.specs.Sound.{IsSoundTable}
use Rattle.brep_file.specs.Spelling.{section}
use Rattle.brep_file.proofs.Basics.{both}

-- ---- entries

module _ (fields : FieldsAreExact) {A : Type 0} (read : List Token → Read A) (spell : A → List (List ℕ)) (Fits : A
    → Type 0) (exact : IsExact read spell Fits) where
  pub entries_takes : (n : ℕ) (xs : List A) (ts rest : List Token) (ys : List A)
      → entries_from read xs n ts ≡ Ok (ys, rest)
      → (new : List A) × (ys ≡ xs ++ new) × Begins ts (flat_map spell new) rest × (length new ≡ n)
      × AllByRecursion Fits new
  entries_takes zero xs ts rest ys e =
      let p = ok_is (xs, ts) (ys, rest) e in
      ([], sym (ap (λ q. q.0) p) ∙ sym (append-nil xs), ap (λ q. q.1) p, refl, tt)
  entries_takes (suc n) xs ts rest ys e =
      let b = bind_ok (read ts) (λ x. entries_from read (xs ++ x.0 ∷ []) n x.1) (ys, rest) e in
      let one = exact.takes ts b.0.1 b.0.0 b.1 in
      let others = entries_takes n (xs ++ b.0.0 ∷ []) b.0.1 rest ys b.2 in (
        b.0.0 ∷ others.0,
        others.1 ∙ append_assoc xs (b.0.0 ∷ []) others.0,
        fields.joined ts (spell b.0.0) b.0.1
            (flat_map spell others.0) rest one.0 others.2,
        ap suc others.3,
        (one.1, others.4),
      )

  pub entries_again : (new xs : List A) (ts rest : List Token) → Begins ts (flat_map spell new) rest
      → AllByRecursion Fits new → entries_from read xs (length new) ts ≡ Ok (xs ++ new, rest)
  entries_again [] xs ts rest b fit = rw (b, append-nil xs) refl
  entries_again (x ∷ new) xs ts rest b fit =
      let s = fields.split ts (spell x) (flat_map spell new) rest b in
      rw (
        exact.again ts s.0 x s.1 fit.0,
        entries_again new (xs ++ x ∷ []) s.0 rest s.2 fit.1,
        append_assoc xs (x ∷ []) new,
      ) refl

-- ---- headings

module _ (fields : FieldsAreExact) (word : List ℕ) (most : ℕ) where
  count_takes : (ts rest : List Token) (n : ℕ) → count_at most ts ≡ Ok (n, rest) → Begins ts (decimal n ∷ []) rest
      × IsSmall n × (n ≤ most)
  count_takes [] rest n e = absurd cc
  count_takes (t ∷ ts) rest n e =
      let b = bind_ok (number_at (t ∷ ts)) (within most t) (n, rest) e in
      let g = guard_ok (nat_le b.0.0 most) (fault (at_token faults.TooMany b.0.0 most t)) b.0 (n, rest) b.2 in
      let one = fields.number.takes (t ∷ ts) b.0.1 b.0.0 b.1 in
      both (λ (m : ℕ) r. Begins (t ∷ ts) (decimal m ∷ []) r × IsSmall m × (m ≤ most)) b.0.0 n b.0.1 rest g.1
      (one.0, one.1, leb-true b.0.0 most g.0)

  count_again : (ts rest : List Token) (n : ℕ) → Begins ts (decimal n ∷ []) rest → IsSmall n → n ≤ most
      → count_at most ts ≡ Ok (n, rest)
  count_again [] rest n b small few = absurd b
  count_again (t ∷ ts) rest n b small few = rw (fields.number.again (t ∷ ts) rest n b small, le-leb n most few) refl

  pub heading_takes : (ts rest : List Token) (n : ℕ) → heading_at word most ts ≡ Ok (n, rest)
      → Begins ts (word ∷ decimal n ∷ []) rest × IsSmall n × (n ≤ most)
  heading_takes ts rest n e =
      let w = bind_ok (word_at word ts) (λ w. count_at most w.1) (n, rest) e in
      let first = (fields.word word).takes ts w.0.1 w.0.0 w.1 in
      let count = count_takes w.0.1 rest n w.2 in
      (fields.joined ts (word ∷ []) w.0.1 (decimal n ∷ []) rest first.0 count.0, count.1, count.2)

  pub heading_again : (ts rest : List Token) (n : ℕ) → Begins ts (word ∷ decimal n ∷ []) rest → IsSmall n → n ≤ most
      → heading_at word most ts ≡ Ok (n, rest)
  heading_again ts rest n b small few =
      let s = fields.split ts (word ∷ []) (decimal n ∷ []) rest b in
      rw ((fields.word word).again ts s.0 tt s.1 tt, count_again s.0 rest n s.2 small few) refl

  -- ---- sections

  module _ {A : Type 0} (read : List Token → Read A) (spell : A → List (List ℕ)) (Fits : A
      → Type 0) (exact : IsExact read spell Fits) where
    section_takes : (ts rest : List Token) (xs : List A) → section_at word most read ts ≡ Ok (xs, rest)
        → Begins ts (section word spell xs) rest × (IsSoundTable Fits xs × (length xs ≤ most))
    section_takes ts rest xs e =
        let h = bind_ok (heading_at word most ts) (λ n. entries_from read [] n.0 n.1) (xs, rest) e in
        let head = heading_takes ts h.0.1 h.0.0 h.1 in
        let all = entries_takes fields read spell Fits exact h.0.0 [] h.0.1 rest xs h.2 in
        let whole : Begins ts (section word spell all.0) rest =
        subst (λ (n : ℕ). Begins ts (word ∷ decimal n ∷ flat_map spell all.0) rest) (sym all.3)
        (fields.joined ts (word ∷ decimal h.0.0 ∷ []) h.0.1 (flat_map spell all.0) rest head.0 all.2) in
        subst (λ (ys : List A). Begins ts (section word spell ys) rest × (IsSoundTable Fits ys × (length ys ≤ most)))
        (sym all.1) (
          whole,
          (
            record { countable = subst IsSmall (sym all.3) head.1; entries = all.4 },
            subst (λ (n : ℕ). n ≤ most)
                (sym all.3) head.2,
          ),
        )

    section_again : (ts rest : List Token) (xs : List A) → Begins ts (section word spell xs) rest
        → IsSoundTable Fits xs × (length xs ≤ most) → section_at word most read ts ≡ Ok (xs, rest)
    section_again ts rest xs b is =
        let s = fields.split ts (word ∷ decimal (length xs) ∷ []) (flat_map spell xs) rest b in
        rw (
          heading_again ts s.0 (length xs) s.1 is.0.countable is.1,
          entries_again fields read spell Fits exact xs [] s.0 rest s.2 is.0.entries,
        ) refl

    pub section_is_exact : IsExact (section_at word most read) (section word spell) (λ xs. IsSoundTable Fits xs
        × (length xs ≤ most))
    section_is_exact = record { takes = section_takes; again = section_again }
