-- What the words of a line say, computed.
use Rattle.std.proofs.Common.{Bor}
use Rattle.std.specs.Prelude.{◌≡◌, MatchOption, ℕ, Bool, true, false, ◌==◌, ◌&&◌, not, nat_le, is_none, if◌then◌else◌}
use Rattle.std.specs.Prelude.{List, [], ◌∷◌, ◌++◌, length, codes, Option, Some, None}
use Rattle.std.specs.List.{list_all, list_any}
use Rattle.std.specs.Option.{option_and_then}
use Rattle.brep_tokens.specs.Forms.{number_of}
use Rattle.orientation.specs.Kinds.{kind_of_name}
use Rattle.orientation.specs.Turns.{turn_of}
use Rattle.orientation.specs.declared.kind.Kind.{Kind}
use Rattle.orientation.specs.declared.turn.Turn.{Turn}
use Rattle.orientation.specs.declared.turn.Turn.TheVariants as turns
use Rattle.script_text.specs.Words.{is_word, words_of}
use Rattle.script_text.specs.declared.phrase.Mention.{Mention}
use Rattle.script_text.specs.declared.phrase.Phrase.{Phrase}
use Rattle.script_text.specs.declared.phrase.Phrase.TheVariants.{Replace, Remove, Merge, Sew, Apply, Undo, Until, Prune}
use Rattle.script_text.specs.declared.phrase.Phrase.TheVariants.{OutputFirst}
use Rattle.script_text.specs.declared.reading.Verb.{Verb}
use Rattle.script_text.specs.declared.reading.Verb.TheVariants as verbs

-- ---- one word

abbrev pub with_sign : Option Turn → Option ℕ → Option Mention
with_sign sign None = None
with_sign sign (Some n) = Some (record { sign = sign; number = n })

-- the first byte's sign, the whole word, and what follows the first byte
abbrev pub signed_mention : Option Turn → List ℕ → List ℕ → Option Mention
signed_mention None word rest = with_sign None (number_of word)
signed_mention (Some t) word rest = with_sign (Some t) (number_of rest)

abbrev pub mention_of : List ℕ → Option Mention
mention_of [] = None
mention_of (b ∷ bs) = signed_mention (turn_of b) (b ∷ bs) bs

abbrev pub verb_of : List ℕ → Option Verb
verb_of word =
    if is_word word (codes "replace") then Some verbs.Replace
    else (if is_word word (codes "remove") then Some verbs.Remove
    else (if is_word word (codes "merge") then Some verbs.Merge
    else (if is_word word (codes "sew") then Some verbs.Sew
    else (if is_word word (codes "apply") then Some verbs.Apply
    else (if is_word word (codes "undo") then Some verbs.Undo
    else (if is_word word (codes "until") then Some verbs.Until
    else (if is_word word (codes "prune") then Some verbs.Prune
    else (if is_word word (codes "output") then Some verbs.Output
    else None))))))))

-- ---- the first words, and those that follow

abbrev pub before : {A : Type 0} → List (List ℕ) → Option A → Option (A × List (List ℕ))
before rest None = None
before rest (Some x) = Some (x, rest)

-- what the words at the front of a line say, and a line with the words that follow; or they don't say it
abbrev pub ReadsFront : {A : Type 0} → Option (A × List (List ℕ)) → Option (A × Bor (List ℕ)) → Type 0
ReadsFront due result = MatchOption result (due ≡ None) (λ r. due ≡ Some (r.0, words_of r.1.now))

-- a line with these words; or there are none
abbrev pub LeavesWords : Option (List (List ℕ)) → Option (Bor (List ℕ)) → Type 0
LeavesWords due result = MatchOption result (due ≡ None) (λ r. due ≡ Some (words_of r.now))

abbrev pub mention_in : List (List ℕ) → Option (Mention × List (List ℕ))
mention_in [] = None
mention_in (w ∷ ws) = before ws (mention_of w)

abbrev pub kind_in : List (List ℕ) → Option (Kind × List (List ℕ))
kind_in [] = None
kind_in (w ∷ ws) = before ws (kind_of_name w)

abbrev pub given : Option ℕ → Option (Option ℕ)
given None = None
given (Some n) = Some (Some n)

abbrev pub number_in : List (List ℕ) → Option (Option ℕ × List (List ℕ))
number_in [] = None
number_in (w ∷ ws) = before ws (given (number_of w))

-- perhaps a word and a number
abbrev pub number_after : List ℕ → List (List ℕ) → Option (Option ℕ × List (List ℕ))
number_after word [] = Some (None, [])
number_after word (w ∷ ws) = if is_word w word then number_in ws else Some (None, w ∷ ws)

abbrev pub after_word : List ℕ → List (List ℕ) → Option (List (List ℕ))
after_word word [] = None
after_word word (w ∷ ws) = if is_word w word then Some ws else None

-- a phrase, where no words follow
abbrev pub alone : Phrase → List (List ℕ) → Option Phrase
alone p [] = Some p
alone p (w ∷ ws) = None

-- ---- whole phrases

abbrev pub removal_in : List (List ℕ) → Option Phrase
removal_in ws =
    option_and_then (λ s. option_and_then (λ p. alone (Remove s.0 p.0) p.1) (number_after (codes "at") s.1))
    (mention_in ws)

-- after `by`, with the source and its place
abbrev pub target_in : Mention → Option ℕ → List (List ℕ) → Option Phrase
target_in source place ws =
    option_and_then (λ t. option_and_then (λ l. alone (Replace source place t.0 l.0) l.1)
    (number_after (codes "loc") t.1)) (mention_in ws)

abbrev pub replacement_in : List (List ℕ) → Option Phrase
replacement_in ws =
    option_and_then (λ s. option_and_then (λ p. option_and_then (target_in s.0 p.0) (after_word (codes "by") p.1))
    (number_after (codes "at") s.1)) (mention_in ws)

-- after `until`
abbrev pub stop_in : List (List ℕ) → Option Phrase
stop_in ws = option_and_then (λ k. alone (Until k.0) k.1) (kind_in ws)

-- after `output`
abbrev pub output_in : List (List ℕ) → Option Phrase
output_in ws =
    option_and_then (λ number. option_and_then (alone OutputFirst) (after_word (codes "1") number))
    (after_word (codes "version") ws)

-- all words as mentions, after these
abbrev pub mentions_from : List Mention → List (List ℕ) → Option (List Mention)
mentions_from ms [] = Some ms
mentions_from ms (w ∷ ws) = option_and_then (λ m. mentions_from (ms ++ m ∷ []) ws) (mention_of w)

abbrev pub is_bare : Mention → Bool
is_bare m = is_none m.sign

abbrev pub may_be_side : Option Turn → Bool
may_be_side None = true
may_be_side (Some turns.Forward) = true
may_be_side (Some turns.Reversed) = true
may_be_side (Some turns.Internal) = false
may_be_side (Some turns.External) = false

abbrev pub are_sewn : List Mention → Bool
are_sewn [] = true
are_sewn (m ∷ ms) = is_bare m && list_all (λ k. may_be_side k.sign) ms

abbrev pub are_distinct : List Mention → Bool
are_distinct [] = true
are_distinct (m ∷ ms) = not (list_any (λ k. m.number == k.number) ms) && are_distinct ms

abbrev pub are_named : List Mention → Bool
are_named ms = nat_le 2 (length ms) && are_distinct ms

abbrev pub merge_of : List Mention → Option Phrase
merge_of ms = if list_all is_bare ms && are_named ms then Some (Merge ms) else None

abbrev pub sewing_of : List Mention → Option Phrase
sewing_of ms = if are_sewn ms && are_named ms then Some (Sew ms) else None

abbrev pub phrase_after : Option Verb → List (List ℕ) → Option Phrase
phrase_after None ws = None
phrase_after (Some verbs.Replace) ws = replacement_in ws
phrase_after (Some verbs.Remove) ws = removal_in ws
phrase_after (Some verbs.Merge) ws = option_and_then merge_of (mentions_from [] ws)
phrase_after (Some verbs.Sew) ws = option_and_then sewing_of (mentions_from [] ws)
phrase_after (Some verbs.Apply) ws = alone Apply ws
phrase_after (Some verbs.Undo) ws = alone Undo ws
phrase_after (Some verbs.Until) ws = stop_in ws
phrase_after (Some verbs.Prune) ws = alone Prune ws
phrase_after (Some verbs.Output) ws = output_in ws

-- the phrase that the words of a line spell, if they spell one
unfoldable pub phrase_of : List (List ℕ) → Option Phrase
phrase_of [] = None
phrase_of (w ∷ ws) = phrase_after (verb_of w) ws
