-- A line is read as the phrase that its words spell, and as no other.
use Rattle.std.proofs.Common.{◌≡◌, ℕ, inl, inr, Bool, true, false, ◌&&◌, leb, if◌then◌else◌, List, [], ◌∷◌, ◌++◌}
use Rattle.std.proofs.Common.{length, map, codes, Option, Some, None, refl, sym, ap, subst, ◌∙◌}
use Rattle.std.specs.Prelude.{◌⊎◌, is_none}
use Rattle.std.specs.List.{AllByRecursion, list_all}
use Rattle.std.specs.Option.{option_and_then}
use Rattle.std.proofs.lemmas.Bool.{le-leb, leb-true}
use Rattle.std.proofs.lemmas.List.{append-nil}
use Rattle.brep_tokens.specs.Laws.{FormsAreExact}
use Rattle.orientation.specs.Kinds.{name_of}
use Rattle.orientation.specs.declared.kind.Kind.{Kind}
use Rattle.orientation.specs.declared.turn.Turn.{Turn}
use Rattle.orientation.specs.declared.turn.Turn.TheVariants.{Forward, Reversed, Internal, External}
use Rattle.script_text.specs.Reading.{after_word, alone, are_distinct, are_named, are_sewn, is_bare, may_be_side}
use Rattle.script_text.specs.Reading.{kind_in, mention_in, mentions_from, merge_of, number_after, output_in}
use Rattle.script_text.specs.Reading.{phrase_after, phrase_of, stop_in}
use Rattle.script_text.specs.Reading.{removal_in, replacement_in, sewing_of, target_in, verb_of}
use Rattle.script_text.specs.Spelling.{AreNamed, AreSewn, IsBare, IsLegal, IsShortMention, IsSided, MayBeShort, Spells}
use Rattle.script_text.specs.Spelling.{spell_mention, spell_number, spelling}
use Rattle.script_text.specs.Words.{is_word}
use Rattle.script_text.specs.declared.phrase.Mention.{Mention}
use Rattle.script_text.specs.declared.phrase.Phrase.{Phrase}
use Rattle.script_text.specs.declared.phrase.Phrase.TheVariants.{Replace, Remove, Merge, Sew, Apply, Undo, Until, Prune}
use Rattle.script_text.specs.declared.phrase.Phrase.TheVariants.{OutputFirst}
use Rattle.script_text.specs.declared.reading.Verb.{Verb}
use Rattle.script_text.specs.declared.reading.Verb.TheVariants as verbs
use Rattle.script_text.proofs.Distinct.{distinct_Decides}
use Rattle.script_text.proofs.ReadingParts.{after_word_there, alone_there, bound, kind_in_back, kind_in_there}
use Rattle.script_text.proofs.ReadingParts.{mention_in_back, mention_in_there}
use Rattle.script_text.proofs.ReadingParts.{mentions_back, mentions_there, none_some, number_after_back}
use Rattle.script_text.proofs.ReadingParts.{number_after_there, number_back, some_is, word_is}

and_true : (a b : Bool) → (a && b) ≡ true → (a ≡ true) × (b ≡ true)
and_true true b h = (refl, h)
and_true false b h = absurd cc

-- ---- lists of mentions

bare_of : (s : Option Turn) → is_none s ≡ true → s ≡ None
bare_of None h = refl
bare_of (Some t) h = absurd cc

all_bare_there : (ms : List Mention) → list_all is_bare ms ≡ true → AllByRecursion IsBare ms
all_bare_there [] h = tt
all_bare_there (m ∷ ms) h =
    let both = and_true (is_bare m) (list_all is_bare ms) h in
    (bare_of m.sign both.0, all_bare_there ms both.1)

all_bare_back : (ms : List Mention) → AllByRecursion IsBare ms → list_all is_bare ms ≡ true
all_bare_back [] h = refl
all_bare_back (m ∷ ms) h = rw h.0 (all_bare_back ms h.1)

side_there : (s : Option Turn) → may_be_side s ≡ true → (s ≡ None) ⊎ ((s ≡ Some Forward) ⊎ (s ≡ Some Reversed))
side_there None h = inl refl
side_there (Some Forward) h = inr (inl refl)
side_there (Some Reversed) h = inr (inr refl)
side_there (Some Internal) h = absurd cc
side_there (Some External) h = absurd cc

side_back : (s : Option Turn) → (s ≡ None) ⊎ ((s ≡ Some Forward) ⊎ (s ≡ Some Reversed)) → may_be_side s ≡ true
side_back s (inl e) = rw e refl
side_back s (inr (inl e)) = rw e refl
side_back s (inr (inr e)) = rw e refl

sides_there : (ms : List Mention) → list_all (λ k. may_be_side k.sign) ms ≡ true → AllByRecursion IsSided ms
sides_there [] h = tt
sides_there (m ∷ ms) h =
    let both = and_true (may_be_side m.sign) (list_all (λ k. may_be_side k.sign) ms) h in
    (side_there m.sign both.0, sides_there ms both.1)

sides_back : (ms : List Mention) → AllByRecursion IsSided ms → list_all (λ k. may_be_side k.sign) ms ≡ true
sides_back [] h = refl
sides_back (m ∷ ms) h = rw (side_back m.sign h.0) (sides_back ms h.1)

sewn_there : (ms : List Mention) → are_sewn ms ≡ true → AreSewn ms
sewn_there [] h = tt
sewn_there (m ∷ ms) h =
    let both = and_true (is_bare m) (list_all (λ k. may_be_side k.sign) ms) h in
    (bare_of m.sign both.0, sides_there ms both.1)

sewn_back : (ms : List Mention) → AreSewn ms → are_sewn ms ≡ true
sewn_back [] h = refl
sewn_back (m ∷ ms) h = rw h.0 (sides_back ms h.1)

named_there : (ms : List Mention) → AllByRecursion IsShortMention ms → are_named ms ≡ true → AreNamed ms
named_there ms short h =
    let both = and_true (leb 2 (length ms)) (are_distinct ms) h in
    record { short = short; some = leb-true 2 (length ms) both.0; distinct = (distinct_Decides ms).0 both.1 }

named_back : (ms : List Mention) → AreNamed ms → are_named ms ≡ true
named_back ms named = rw (le-leb 2 (length ms) named.some) ((distinct_Decides ms).1 named.distinct)

if_some : (x : Bool) (p q : Phrase) → (if x then Some p else None) ≡ Some q → (x ≡ true) × (p ≡ q)
if_some true p q e = (refl, some_is p q e)
if_some false p q e = absurd (none_some None q refl e)

stop_there : (ws : List (List ℕ)) (p : Phrase) → stop_in ws ≡ Some p → Spells (codes "until" ∷ ws) p
stop_there ws p e =
    let k = bound (λ (r : Kind × List (List ℕ)). alone (Until r.0) r.1) (kind_in ws) p e in
    let last = alone_there (Until k.0.0) p k.0.1 k.2 in
    subst (Spells (codes "until" ∷ ws)) last.1 (record {
      spelled = ap (λ (z : List (List ℕ)). codes "until" ∷ z)
          (kind_in_there ws k.0 k.1 ∙ ap (λ (z : List (List ℕ)). name_of k.0.0 ∷ z) last.0);
      legal = tt;
    })

output_there : (ws : List (List ℕ)) (p : Phrase) → output_in ws ≡ Some p → Spells (codes "output" ∷ ws) p
output_there ws p e =
    let v = bound (λ (number : List (List ℕ)). option_and_then (alone OutputFirst) (after_word (codes "1") number))
    (after_word (codes "version") ws) p e in
    let n = bound (alone OutputFirst) (after_word (codes "1") v.0) p v.2 in
    let last = alone_there OutputFirst p n.0 n.2 in
    subst (Spells (codes "output" ∷ ws)) last.1 (record {
      spelled = ap (λ (z : List (List ℕ)). codes "output" ∷ z)
          (after_word_there (codes "version") ws v.0 v.1 ∙ ap (λ (z : List (List ℕ)). codes "version" ∷ z)
          (after_word_there (codes "1") v.0 n.0 n.1 ∙ ap (λ (z : List (List ℕ)). codes "1" ∷ z) last.0));
      legal = tt;
    })

module _ (forms : FormsAreExact) where
  -- ---- what is read is spelled

  removal_there : (ws : List (List ℕ)) (p : Phrase) → removal_in ws ≡ Some p → Spells (codes "remove" ∷ ws) p
  removal_there ws p e =
      let s = bound (λ (r : Mention × List (List ℕ)). option_and_then
      (λ (q : Option ℕ × List (List ℕ)). alone (Remove r.0 q.0) q.1) (number_after (codes "at") r.1))
      (mention_in ws) p e in
      let n = bound (λ (q : Option ℕ × List (List ℕ)). alone (Remove s.0.0 q.0) q.1)
      (number_after (codes "at") s.0.1) p s.2 in
      let last = alone_there (Remove s.0.0 n.0.0) p n.0.1 n.2 in
      let source = (mention_in_there forms) ws s.0 s.1 in
      let place = (number_after_there forms) (codes "at") s.0.1 n.0 n.1 in
      subst (Spells (codes "remove" ∷ ws)) last.1 (record {
        spelled = ap (λ (z : List (List ℕ)). codes "remove" ∷ z)
            (source.0 ∙ ap (λ (z : List (List ℕ)). spell_mention s.0.0 ∷ z)
            (place.0 ∙ ap (λ (z : List (List ℕ)). spell_number (codes "at") n.0.0 ++ z) last.0
            ∙ append-nil (spell_number (codes "at") n.0.0)));
        legal = (source.1, place.1);
      })

  record IsTarget (source : Mention) (place : Option ℕ) (ws : List (List ℕ)) (p : Phrase) : Type 0 where
    target : Mention
    location : Option ℕ
    spelled : ws ≡ spell_mention target ∷ spell_number (codes "loc") location
    short : IsShortMention target
    may_be_short : MayBeShort location
    is : Replace source place target location ≡ p

  target_there : (source : Mention) (place : Option ℕ) (ws : List (List ℕ)) (p : Phrase)
      → target_in source place ws ≡ Some p → IsTarget source place ws p
  target_there source place ws p e =
      let t = bound (λ (r : Mention × List (List ℕ)). option_and_then
      (λ (q : Option ℕ × List (List ℕ)). alone (Replace source place r.0 q.0) q.1) (number_after (codes "loc") r.1))
      (mention_in ws) p e in
      let n = bound (λ (q : Option ℕ × List (List ℕ)). alone (Replace source place t.0.0 q.0) q.1)
      (number_after (codes "loc") t.0.1) p t.2 in
      let last = alone_there (Replace source place t.0.0 n.0.0) p n.0.1 n.2 in
      let named = (mention_in_there forms) ws t.0 t.1 in
      let at = (number_after_there forms) (codes "loc") t.0.1 n.0 n.1 in
      record {
        target = t.0.0;
        location = n.0.0;
        spelled = named.0 ∙ ap (λ (z : List (List ℕ)). spell_mention t.0.0 ∷ z)
            (at.0 ∙ ap (λ (z : List (List ℕ)). spell_number (codes "loc") n.0.0 ++ z) last.0
            ∙ append-nil (spell_number (codes "loc") n.0.0));
        short = named.1;
        may_be_short = at.1;
        is = last.1;
      }

  replacement_there : (ws : List (List ℕ)) (p : Phrase) → replacement_in ws ≡ Some p → Spells (codes "replace" ∷ ws) p
  replacement_there ws p e =
      let s = bound (λ (r : Mention × List (List ℕ)). option_and_then (λ (q : Option ℕ × List (List ℕ)). option_and_then
      (target_in r.0 q.0) (after_word (codes "by") q.1)) (number_after (codes "at") r.1)) (mention_in ws) p e in
      let n = bound (λ (q : Option ℕ × List (List ℕ)). option_and_then (target_in s.0.0 q.0)
      (after_word (codes "by") q.1)) (number_after (codes "at") s.0.1) p s.2 in
      let b = bound (target_in s.0.0 n.0.0) (after_word (codes "by") n.0.1) p n.2 in
      let to = target_there s.0.0 n.0.0 b.0 p b.2 in
      let source = (mention_in_there forms) ws s.0 s.1 in
      let place = (number_after_there forms) (codes "at") s.0.1 n.0 n.1 in
      let by = after_word_there (codes "by") n.0.1 b.0 b.1 in
      subst (Spells (codes "replace" ∷ ws)) to.is (record {
        spelled = ap (λ (z : List (List ℕ)). codes "replace" ∷ z)
            (source.0 ∙ ap (λ (z : List (List ℕ)). spell_mention s.0.0 ∷ z)
            (place.0 ∙ ap (λ (z : List (List ℕ)). spell_number (codes "at") n.0.0 ++ z)
            (by ∙ ap (λ (z : List (List ℕ)). codes "by" ∷ z) to.spelled)));
        legal = (source.1, (place.1, (to.short, to.may_be_short)));
      })

  merge_there : (ws : List (List ℕ)) (p : Phrase) → option_and_then merge_of (mentions_from [] ws) ≡ Some p
      → Spells (codes "merge" ∷ ws) p
  merge_there ws p e =
      let l = bound merge_of (mentions_from [] ws) p e in
      let are = (mentions_there forms) [] ws l.0 l.1 in
      let test = if_some (list_all is_bare l.0 && are_named l.0) (Merge l.0) p l.2 in
      let both = and_true (list_all is_bare l.0) (are_named l.0) test.0 in
      let short : AllByRecursion IsShortMention l.0 =
      subst (AllByRecursion IsShortMention) (sym are.joined) are.short in
      subst (Spells (codes "merge" ∷ ws)) test.1 (record {
        spelled = ap (λ (z : List (List ℕ)). codes "merge" ∷ z)
            (are.spelled ∙ ap (λ (z : List Mention). map spell_mention z) (sym are.joined));
        legal = (named_there l.0 short both.1, all_bare_there l.0 both.0);
      })

  sewing_there : (ws : List (List ℕ)) (p : Phrase) → option_and_then sewing_of (mentions_from [] ws) ≡ Some p
      → Spells (codes "sew" ∷ ws) p
  sewing_there ws p e =
      let l = bound sewing_of (mentions_from [] ws) p e in
      let are = (mentions_there forms) [] ws l.0 l.1 in
      let test = if_some (are_sewn l.0 && are_named l.0) (Sew l.0) p l.2 in
      let both = and_true (are_sewn l.0) (are_named l.0) test.0 in
      let short : AllByRecursion IsShortMention l.0 =
      subst (AllByRecursion IsShortMention) (sym are.joined) are.short in
      subst (Spells (codes "sew" ∷ ws)) test.1 (record {
        spelled = ap (λ (z : List (List ℕ)). codes "sew" ∷ z)
            (are.spelled ∙ ap (λ (z : List Mention). map spell_mention z) (sym are.joined));
        legal = (named_there l.0 short both.1, sewn_there l.0 both.0);
      })

  abbrev verb_text : Verb → List ℕ
  verb_text verbs.Replace = codes "replace"
  verb_text verbs.Remove = codes "remove"
  verb_text verbs.Merge = codes "merge"
  verb_text verbs.Sew = codes "sew"
  verb_text verbs.Apply = codes "apply"
  verb_text verbs.Undo = codes "undo"
  verb_text verbs.Until = codes "until"
  verb_text verbs.Prune = codes "prune"
  verb_text verbs.Output = codes "output"

  verb_if : (x : Bool) (text w : List ℕ) (a v : Verb) (o : Option Verb) → is_word w text ≡ x → text ≡ verb_text a
      → (o ≡ Some v → w ≡ verb_text v) → (if x then Some a else o) ≡ Some v → w ≡ verb_text v
  verb_if true text w a v o same is further e = (word_is w text).0 same ∙ is ∙ ap verb_text (some_is a v e)
  verb_if false text w a v o same is further e = further e

  none_some_word : (w : List ℕ) (v : Verb) → None ≡ Some v → w ≡ verb_text v
  none_some_word w v e = absurd (none_some None v refl e)

  verb_there : (w : List ℕ) (v : Verb) → verb_of w ≡ Some v → w ≡ verb_text v
  verb_there w v e =
      verb_if (is_word w (codes "replace")) (codes "replace") w verbs.Replace v _ refl refl
      (verb_if (is_word w (codes "remove")) (codes "remove") w verbs.Remove v _ refl refl
      (verb_if (is_word w (codes "merge")) (codes "merge") w verbs.Merge v _ refl refl
      (verb_if (is_word w (codes "sew")) (codes "sew") w verbs.Sew v _ refl refl
      (verb_if (is_word w (codes "apply")) (codes "apply") w verbs.Apply v _ refl refl
      (verb_if (is_word w (codes "undo")) (codes "undo") w verbs.Undo v _ refl refl
      (verb_if (is_word w (codes "until")) (codes "until") w verbs.Until v _ refl refl
      (verb_if (is_word w (codes "prune")) (codes "prune") w verbs.Prune v _ refl refl
      (verb_if (is_word w (codes "output")) (codes "output") w verbs.Output v None refl refl
      (none_some_word w v))))))))) e

  after_there : (v : Verb) (ws : List (List ℕ)) (p : Phrase) → phrase_after (Some v) ws ≡ Some p
      → Spells (verb_text v ∷ ws) p
  after_there verbs.Replace ws p e = replacement_there ws p e
  after_there verbs.Remove ws p e = removal_there ws p e
  after_there verbs.Merge ws p e = merge_there ws p e
  after_there verbs.Sew ws p e = sewing_there ws p e
  after_there verbs.Apply ws p e =
      let last = alone_there Apply p ws e in
      subst (Spells (codes "apply" ∷ ws)) last.1
      (record { spelled = ap (λ (z : List (List ℕ)). codes "apply" ∷ z) last.0; legal = tt })
  after_there verbs.Undo ws p e =
      let last = alone_there Undo p ws e in
      subst (Spells (codes "undo" ∷ ws)) last.1
      (record { spelled = ap (λ (z : List (List ℕ)). codes "undo" ∷ z) last.0; legal = tt })
  after_there verbs.Until ws p e = stop_there ws p e
  after_there verbs.Prune ws p e =
      let last = alone_there Prune p ws e in
      subst (Spells (codes "prune" ∷ ws)) last.1
      (record { spelled = ap (λ (z : List (List ℕ)). codes "prune" ∷ z) last.0; legal = tt })
  after_there verbs.Output ws p e = output_there ws p e

  verb_first : (o : Option Verb) (w : List ℕ) (ws : List (List ℕ)) (p : Phrase) → verb_of w ≡ o
      → phrase_after o ws ≡ Some p → Spells (w ∷ ws) p
  verb_first None w ws p is e = absurd (none_some None p refl e)
  verb_first (Some v) w ws p is e = subst (λ (z : List ℕ). Spells (z ∷ ws) p) (sym (verb_there w v is))
      (after_there v ws p e)

  pub phrase_there : (ws : List (List ℕ)) (p : Phrase) → phrase_of ws ≡ Some p → Spells ws p
  unfolding phrase_of
  phrase_there [] p e = absurd (none_some None p refl e)
  phrase_there (w ∷ ws) p e = verb_first (verb_of w) w ws p refl e

  -- ---- what is spelled is read

  number_alone : (word : List ℕ) (o : Option ℕ) → MayBeShort o → number_after word (spell_number word o) ≡ Some (o, [])
  number_alone word None short = refl
  number_alone word (Some n) short = rw ((word_is word word).1 refl, (number_back forms) n short) refl

  target_back : (source : Mention) (place : Option ℕ) (t : Mention) (l : Option ℕ) → IsShortMention t → MayBeShort l
      → target_in source place (spell_mention t ∷ spell_number (codes "loc") l) ≡ Some (Replace source place t l)
  target_back source place t l short may =
      ap (option_and_then (λ (r : Mention × List (List ℕ)). option_and_then
      (λ (q : Option ℕ × List (List ℕ)). alone (Replace source place r.0 q.0) q.1)
      (number_after (codes "loc") r.1))) ((mention_in_back forms) t (spell_number (codes "loc") l) short)
      ∙ ap (option_and_then (λ (q : Option ℕ × List (List ℕ)). alone (Replace source place t q.0) q.1))
      (number_alone (codes "loc") l may)

  replacement_back : (s : Mention) (place : Option ℕ) (t : Mention) (l : Option ℕ) → IsShortMention s → MayBeShort place
      → IsShortMention t → MayBeShort l
      → replacement_in (spell_mention s
      ∷ (spell_number (codes "at") place ++ (codes "by" ∷ spell_mention t ∷ spell_number (codes "loc") l))) ≡ Some
      (Replace s place t l)
  replacement_back s place t l s_short p_short t_short l_short =
      let rest : List (List ℕ) = codes "by" ∷ spell_mention t ∷ spell_number (codes "loc") l in
      ap (option_and_then (λ (r : Mention × List (List ℕ)). option_and_then
      (λ (q : Option ℕ × List (List ℕ)). option_and_then (target_in r.0 q.0) (after_word (codes "by") q.1))
      (number_after (codes "at") r.1)))
      ((mention_in_back forms) s (spell_number (codes "at") place ++ rest) s_short)
      ∙ ap (option_and_then (λ (q : Option ℕ × List (List ℕ)). option_and_then (target_in s q.0)
      (after_word (codes "by") q.1))) ((number_after_back forms) (codes "at") place rest refl p_short)
      ∙ target_back s place t l t_short l_short

  removal_back : (s : Mention) (place : Option ℕ) → IsShortMention s → MayBeShort place
      → removal_in (spell_mention s ∷ spell_number (codes "at") place) ≡ Some (Remove s place)
  removal_back s place short may =
      ap (option_and_then (λ (r : Mention × List (List ℕ)). option_and_then
      (λ (q : Option ℕ × List (List ℕ)). alone (Remove r.0 q.0) q.1) (number_after (codes "at") r.1)))
      ((mention_in_back forms) s (spell_number (codes "at") place) short)
      ∙ ap (option_and_then (λ (q : Option ℕ × List (List ℕ)). alone (Remove s q.0) q.1))
      (number_alone (codes "at") place may)

  merge_back : (ms : List Mention) → AreNamed ms → AllByRecursion IsBare ms
      → option_and_then merge_of (mentions_from [] (map spell_mention ms)) ≡ Some (Merge ms)
  merge_back ms named bare = ap (option_and_then merge_of) ((mentions_back forms) [] ms named.short)
      ∙ rw (all_bare_back ms bare, named_back ms named) refl

  sewing_back : (ms : List Mention) → AreNamed ms → AreSewn ms
      → option_and_then sewing_of (mentions_from [] (map spell_mention ms)) ≡ Some (Sew ms)
  sewing_back ms named sewn = ap (option_and_then sewing_of) ((mentions_back forms) [] ms named.short)
      ∙ rw (sewn_back ms sewn, named_back ms named) refl

  phrase_of_spelling : (p : Phrase) → IsLegal p → phrase_of (spelling p) ≡ Some p
  unfolding phrase_of
  phrase_of_spelling (Replace s place t l) legal =
      replacement_back s place t l legal.0 legal.1.0 legal.1.1.0 legal.1.1.1
  phrase_of_spelling (Remove s place) legal = removal_back s place legal.0 legal.1
  phrase_of_spelling (Merge ms) legal = merge_back ms legal.0 legal.1
  phrase_of_spelling (Sew ms) legal = sewing_back ms legal.0 legal.1
  phrase_of_spelling Apply legal = refl
  phrase_of_spelling Undo legal = refl
  phrase_of_spelling (Until kind) legal =
      ap (option_and_then (λ (r : Kind × List (List ℕ)). alone (Until r.0) r.1)) (kind_in_back kind [])
  phrase_of_spelling Prune legal = refl
  phrase_of_spelling OutputFirst legal = refl

  pub phrase_back : (ws : List (List ℕ)) (p : Phrase) → Spells ws p → phrase_of ws ≡ Some p
  phrase_back ws p is = ap phrase_of is.spelled ∙ phrase_of_spelling p is.legal
