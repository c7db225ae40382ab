-- A text is read as the history that it spells.
use Rattle.std.proofs.Common.{◌≡◌, ℕ, ◌+◌, ◌<◌, ◌≤◌, inl, inr, Bool, true, false, ◌==◌, if◌then◌else◌, List, [], ◌∷◌, ◌++◌, length, take, map, Some, Result, Ok, Err, refl, sym, ap, subst, ◌∙◌, append_assoc, arith}
use Rattle.std.specs.Prelude.{codes}
use Rattle.std.specs.List.{AllByRecursion}
use Rattle.std.proofs.lemmas.Bool.{eqb-true}
use Rattle.std.proofs.lemmas.Bool.Decides.{eqb_tells}
use Rattle.std.proofs.lemmas.List.{append-nil, nil_from_length}
use Rattle.brep_tokens.specs.Laws.{FormsAreExact}
use Rattle.brep_tokens.specs.Written.{lines_text}
use Rattle.lists.specs.Results.{◌>>=◌}
use Rattle.lists.proofs.Results.{bind_ok, guard_ok, ok_is}
use Rattle.history_text.specs.HistoryText.{IsHistory, IsShort, history_lines, number_words, origin_lines, pair_words, section, text_of}
use Rattle.history_text.specs.LineForms.{origin_due, pair_due, removed_due, text_of_line}
use Rattle.history_text.specs.Reading.{Left, Read, alone, fault_of, first_that_disagrees, history_at, history_of, origins_at, pairs_at, removed_at, rest_at}
use Rattle.history_text.specs.Spelled.{Answers, FaultsHaveTheirLine, Gives, SpellsHistory, SpellsNone, TextsSpellOneHistory}
use Rattle.history_text.specs.declared.fault.HistoryFault.{HistoryFault}
use Rattle.history_text.specs.declared.fault.HistoryFault.TheVariants.{NotHistory, NoMemory}
use Rattle.history_text.specs.declared.file.HistoryFile.{HistoryFile}
use Rattle.history_text.proofs.FormLaws.{text_again, text_there}
use Rattle.history_text.proofs.LineCuts.{lacks_test}
use Rattle.history_text.proofs.LineLaws.{first_part, generated_part, history_parts, last_part, modified_part, origins_part, removed_part}
use Rattle.history_text.proofs.PartLaws.{origins_span, origins_there, pairs_span, pairs_there, removed_span, removed_there}
use Rattle.history_text.proofs.PartReaders.{behind_end, behind_generated, behind_head, behind_modified, behind_origins, behind_removed, end_at, file, head_at}
use Rattle.history_text.proofs.Rises.{AtLeast, Rises, rises_line, rises_section, rises_then}
use Rattle.history_text.proofs.SectionLaws.{left_at, line_there}
use Rattle.history_text.proofs.Spans.{Spans, spans_line, spans_none, spans_then}

-- the parts after the origins
abbrev rest_text : HistoryFile → List ℕ
rest_text h = modified_part h ++ (generated_part h ++ (removed_part h ++ last_part))

four : (a b c d r : List ℕ) → a ++ (b ++ (c ++ (d ++ r))) ≡ (a ++ (b ++ (c ++ d))) ++ r
four a b c d r =
    ap (λ z. a ++ (b ++ z)) (sym (append_assoc c d r)) ∙ ap (λ z. a ++ z) (sym (append_assoc b (c ++ d) r)) ∙ sym (append_assoc a (b ++ (c ++ d)) r)

-- the lines of the parts after the origins
abbrev end_line : List (List (List ℕ))
end_line = (codes "end" ∷ []) ∷ []

abbrev rest_lines : HistoryFile → List (List (List ℕ))
rest_lines h =
    section (codes "modified") (map pair_words h.modified)
    ++ (section (codes "generated") (map pair_words h.generated)
    ++ (section (codes "removed") (map number_words h.removed)
    ++ end_line))

text_lines : (h : HistoryFile) → text_of h ≡ lines_text (history_lines h)
unfolding text_of
text_lines h = refl

pub record IsRest (origins : List ℕ) (bytes : List ℕ) (h : HistoryFile) (rest : List ℕ) : Type 0 where
  pub origins_are : h.origins ≡ origins
  pub sound : AllByRecursion IsShort h.origins → IsHistory h
  pub spelled : bytes ≡ rest_text h ++ rest

later_alone : (b : Bool) (h : HistoryFile) (number line : ℕ) → fault_of (if b then Ok h else Err number) ≡ Some line → number ≡ line
later_alone true h number line e = absurd cc
later_alone false h number line e = cc

later : (n : ℕ) (z : Read HistoryFile) (line : ℕ) → AtLeast n z → fault_of (z >>= alone) ≡ Some line → n ≤ line
later n (Ok x) line is e = let at : x.1.number ≡ line = later_alone (length x.1.bytes == 0) x.0 x.1.number line e in omega (arith, is, at)
later n (Err blamed) line is e = let at : blamed ≡ line = cc in omega (arith, is, at)

module _ (forms : FormsAreExact) where
  rest_there : (origins : List ℕ) (old : Left) (h : HistoryFile) (left : Left) → IsShort (length origins) → rest_at origins old ≡ Ok (h, left) → IsRest origins old.bytes h left.bytes
  rest_there origins old h left short e =
      let n = length origins in
      let m = bind_ok (pairs_at (codes "modified") n old) (behind_modified origins) (h, left) e in
      let g = bind_ok (pairs_at (codes "generated") n m.0.1) (behind_generated origins m.0.0) (h, left) m.2 in
      let r = bind_ok (removed_at g.0.1) (behind_removed origins m.0.0 g.0.0) (h, left) g.2 in
      let d = bind_ok (end_at r.0.1) (behind_end origins m.0.0 g.0.0 r.0.0) (h, left) r.2 in
      let same = ok_is (file origins m.0.0 g.0.0 r.0.0, d.0.1) (h, left) d.2 in
      let one = pairs_there forms (codes "modified") n old m.0.0 m.0.1 short m.1 in
      let two = pairs_there forms (codes "generated") n m.0.1 g.0.0 g.0.1 short g.1 in
      let three = removed_there forms g.0.1 r.0.0 r.0.1 r.1 in
      let line = line_there (text_of_line (codes "end")) r.0.1 d.0.0 d.0.1 d.1 in
      let end : r.0.1.bytes ≡ last_part ++ d.0.1.bytes = line.2 ∙ ap (λ z. z ++ 10 ∷ d.0.1.bytes) (text_there (codes "end") line.0 d.0.0 line.1) in
      let made = file origins m.0.0 g.0.0 r.0.0 in
      let all : old.bytes ≡ rest_text made ++ d.0.1.bytes =
      one.1 ∙ ap (λ z. modified_part made ++ z) (two.1 ∙ ap (λ z. generated_part made ++ z) (three.1 ∙ ap (λ z. removed_part made ++ z) end))
      ∙ four (modified_part made) (generated_part made) (removed_part made) last_part d.0.1.bytes in
      subst (λ (q : HistoryFile × Left). IsRest origins old.bytes q.0 q.1.bytes) same (record {
        origins_are = refl;
        sound = λ shorts. record { origins = shorts; written = short; modified = one.0; generated = two.0; removed = three.0.0; ascend = three.0.1; short = three.0.2 };
        spelled = all;
      })

  history_there : (old : Left) (h : HistoryFile) (left : Left) → history_at old ≡ Ok (h, left) → IsHistory h × (old.bytes ≡ text_of h ++ left.bytes)
  history_there old h left e =
      let f = bind_ok (head_at old) behind_head (h, left) e in
      let o = bind_ok (origins_at f.0.1) behind_origins (h, left) f.2 in
      let line = line_there (text_of_line (codes "BREP-HISTORY 1")) old f.0.0 f.0.1 f.1 in
      let head : old.bytes ≡ first_part ++ f.0.1.bytes = line.2 ∙ ap (λ z. z ++ 10 ∷ f.0.1.bytes) (text_there (codes "BREP-HISTORY 1") line.0 f.0.0 line.1) in
      let os = origins_there forms f.0.1 o.0.0 o.0.1 o.1 in
      let r = rest_there o.0.0 o.0.1 h left os.0.1 o.2 in
      let origins : f.0.1.bytes ≡ origins_part h ++ (rest_text h ++ left.bytes) =
      os.1 ∙ ap (λ (z : List ℕ). lines_text (section (codes "records") (origin_lines z)) ++ o.0.1.bytes) (sym r.origins_are) ∙ ap (λ z. origins_part h ++ z) r.spelled in (
        r.sound (subst (AllByRecursion IsShort) (sym r.origins_are) os.0.0),
        head ∙ ap (λ z. first_part ++ z) (origins ∙ sym (append_assoc (origins_part h) (rest_text h) left.bytes))
            ∙ sym (append_assoc first_part (origins_part h ++ rest_text h) left.bytes) ∙ ap (λ z. z ++ left.bytes) (sym (history_parts h)),
      )

  end_rises : (os : List ℕ) (ms gs : List (ℕ × ℕ)) (rs : List ℕ) → Rises {A = Unit {0}} (behind_end os ms gs rs)
  end_rises os ms gs rs z = omega arith

  removed_rises : (os : List ℕ) (ms gs : List (ℕ × ℕ)) → Rises {A = List ℕ} (behind_removed os ms gs)
  removed_rises os ms gs z = rises_then z.1.number (end_at z.1) (behind_end os ms gs z.0) (rises_line (text_of_line (codes "end")) z.1) (end_rises os ms gs z.0)

  generated_rises : (os : List ℕ) (ms : List (ℕ × ℕ))
      → Rises {A = List (ℕ × ℕ)} (behind_generated os ms)
  generated_rises os ms z =
      rises_then z.1.number (removed_at z.1) (behind_removed os ms z.0) (rises_section (codes "removed") removed_due z.1) (removed_rises os ms z.0)

  modified_rises : (os : List ℕ)
      → Rises {A = List (ℕ × ℕ)} (behind_modified os)
  modified_rises os z =
      rises_then z.1.number (pairs_at (codes "generated") (length os) z.1) (behind_generated os z.0)
      (rises_section (codes "generated") (pair_due (length os)) z.1) (generated_rises os z.0)

  origins_rises : Rises {A = List ℕ} behind_origins
  origins_rises z =
      rises_then z.1.number (pairs_at (codes "modified") (length z.0) z.1) (behind_modified z.0)
      (rises_section (codes "modified") (pair_due (length z.0)) z.1) (modified_rises z.0)

  head_rises : Rises {A = Unit {0}} behind_head
  head_rises z = rises_then z.1.number (origins_at z.1) behind_origins (rises_section (codes "records") origin_due z.1) origins_rises

  rest_spans : (h : HistoryFile) → IsHistory h → Spans (rest_at h.origins) (rest_lines h) h
  rest_spans h is =
      let n = length h.origins in
      let one = pairs_span forms (codes "modified") n h.modified (lacks_test 10 (codes "modified") refl) (lacks_test 32 (codes "modified") refl) is.written is.modified in
      let two = pairs_span forms (codes "generated") n h.generated (lacks_test 10 (codes "generated") refl) (lacks_test 32 (codes "generated") refl) is.written is.generated in
      let three = removed_span forms h.removed is.removed is.ascend is.short in
      let end = spans_line (text_of_line (codes "end")) (codes "end" ∷ []) tt (lacks_test 10 (codes "end") refl) (text_again (codes "end")) in
      let modified = section (codes "modified") (map pair_words h.modified) in
      let generated = section (codes "generated") (map pair_words h.generated) in
      let removed = section (codes "removed") (map number_words h.removed) in
      spans_then (pairs_at (codes "modified") n) (behind_modified h.origins)
      modified (generated ++ (removed ++ end_line)) h.modified h one
      (spans_then (pairs_at (codes "generated") n) (behind_generated h.origins h.modified)
      generated (removed ++ end_line) h.generated h two
      (spans_then removed_at (behind_removed h.origins h.modified h.generated)
      removed end_line h.removed h three
      (spans_then end_at (behind_end h.origins h.modified h.generated h.removed) end_line [] tt h end (spans_none h) (end_rises h.origins h.modified h.generated h.removed))
      (removed_rises h.origins h.modified h.generated)) (generated_rises h.origins h.modified)) (modified_rises h.origins)

  history_spans : (h : HistoryFile) → IsHistory h → Spans history_at (history_lines h) h
  history_spans h is =
      let head = spans_line (text_of_line (codes "BREP-HISTORY 1")) (codes "BREP-HISTORY" ∷ codes "1" ∷ []) tt (lacks_test 10 (codes "BREP-HISTORY 1") refl) (text_again (codes "BREP-HISTORY 1")) in
      let records = section (codes "records") (origin_lines h.origins) in
      spans_then head_at behind_head ((codes "BREP-HISTORY" ∷ codes "1" ∷ []) ∷ []) (records ++ rest_lines h) tt h head
      (spans_then origins_at behind_origins records (rest_lines h) h.origins h (origins_span forms h.origins is.origins is.written) (rest_spans h is) origins_rises) head_rises

  read_there : (bytes : List ℕ) (h : HistoryFile) → history_of bytes ≡ Ok h → SpellsHistory bytes h
  unfolding history_of
  read_there bytes h e =
      let b = bind_ok (history_at (left_at 1 bytes)) alone h e in
      let g = guard_ok (length b.0.1.bytes == 0) b.0.1.number b.0.0 h b.2 in
      let none : b.0.1.bytes ≡ [] = nil_from_length b.0.1.bytes (eqb-true (length b.0.1.bytes) 0 g.0) in
      let t = history_there (left_at 1 bytes) b.0.0 b.0.1 b.1 in
      subst (SpellsHistory bytes) g.1 (record { sound = t.0; spelled = t.1 ∙ ap (λ z. text_of b.0.0 ++ z) none ∙ append-nil (text_of b.0.0) })

  read_again : (bytes : List ℕ) (h : HistoryFile) → SpellsHistory bytes h → history_of bytes ≡ Ok h
  unfolding history_of
  read_again bytes h is =
      let whole = (history_spans h is.sound).whole 1 [] in
      let text : bytes ≡ lines_text (history_lines h) ++ [] = is.spelled ∙ text_lines h ∙ sym (append-nil (lines_text (history_lines h))) in
      let at : history_at (left_at 1 bytes) ≡ Ok (h, left_at (1 + length (history_lines h)) []) = ap (λ (z : List ℕ). history_at (left_at 1 z)) text ∙ whole in
      rw at refl

  goes_on : (h : HistoryFile) (more : List ℕ) → IsHistory h → 0 < length more → first_that_disagrees (text_of h ++ more) ≡ Some (length (history_lines h) + 1)
  unfolding history_of first_that_disagrees
  goes_on h more is some =
      let text : text_of h ++ more ≡ lines_text (history_lines h) ++ more = ap (λ (z : List ℕ). z ++ more) (text_lines h) in
      let at : history_at (left_at 1 (text_of h ++ more)) ≡ Ok (h, left_at (1 + length (history_lines h)) more) = ap (λ (z : List ℕ). history_at (left_at 1 z)) text ∙ (history_spans h is).whole 1 more in
      let not_empty : (length more == 0) ≡ false =
      elim (eqb_tells (length more) 0) [
        | inl none ↦ absurd (omega (arith, none.1, some))
        | inr other ↦ other.0
      ] in
      let place : 1 + length (history_lines h) ≡ length (history_lines h) + 1 = omega arith in
      rw (at, not_empty) (ap (λ (n : ℕ). Some n) place)

  breaks_off : (h : HistoryFile) (lines : ℕ) → IsHistory h → lines < length (history_lines h) → first_that_disagrees (lines_text (take lines (history_lines h))) ≡ Some (lines + 1)
  unfolding history_of first_that_disagrees
  breaks_off h lines is some =
      let place : 1 + lines ≡ lines + 1 = omega arith in
      rw ((history_spans h is).short 1 lines some) (ap (λ (n : ℕ). Some n) place)

  never_blamed : (h : HistoryFile) (lines : ℕ) (rest : List ℕ) (line : ℕ) → IsHistory h → lines ≤ length (history_lines h)
      → first_that_disagrees (lines_text (take lines (history_lines h)) ++ rest) ≡ Some line → lines < line
  unfolding history_of first_that_disagrees
  never_blamed h lines rest line is le e =
      let text = lines_text (take lines (history_lines h)) ++ rest in
      omega (arith, later (1 + lines) (history_at (left_at 1 text)) line ((history_spans h is).front 1 lines rest le) e)

  pub faults_placed : FaultsHaveTheirLine
  faults_placed = record { longer = goes_on; shorter = breaks_off; front = never_blamed }

  none_disagrees : (bytes : List ℕ) (r : Result HistoryFile ℕ) → history_of bytes ≡ r → SpellsNone bytes → (line : ℕ) × (fault_of r ≡ Some line)
  none_disagrees bytes (Ok h) e none = absurd (none h (read_there bytes h e))
  none_disagrees bytes (Err line) e none = (line, refl)

  disagrees_none : (bytes : List ℕ) (line : ℕ) → fault_of (history_of bytes) ≡ Some line → SpellsNone bytes
  disagrees_none bytes line e h is = let f : fault_of (Ok h) ≡ Some line = ap fault_of (sym (read_again bytes h is)) ∙ e in absurd cc

  pub spell_one : TextsSpellOneHistory
  unfolding first_that_disagrees
  spell_one = record {
    read = λ bytes h. (read_there bytes h, read_again bytes h);
    one = λ bytes g h is also. ok_is {E = ℕ} g h (sym (read_again bytes g is) ∙ read_again bytes h also);
    none = λ bytes. (none_disagrees bytes (history_of bytes) refl, λ d. disagrees_none bytes d.0 d.1);
    written = λ h is. read_again (text_of h) h (record { sound = is; spelled = refl });
  }

disagrees_at : (bytes : List ℕ) (line : ℕ) → history_of bytes ≡ Err line → first_that_disagrees bytes ≡ Some line
unfolding first_that_disagrees
disagrees_at bytes line e = ap fault_of e

-- what is told of a text, by what its reading gives
pub answers_given : TextsSpellOneHistory → (bytes : List ℕ) (r : Result HistoryFile HistoryFault) → Gives (history_of bytes) r → Answers bytes r
answers_given law bytes (Ok h) e = (law.read bytes h).0 e
answers_given law bytes (Err (NotHistory line)) e = let at = disagrees_at bytes line e in ((law.none bytes).1 (line, at), at)
answers_given law bytes (Err NoMemory) e = tt
