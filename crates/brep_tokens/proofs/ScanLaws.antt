-- A scanner gives the version and the tokens of its text.
use Rattle.std.proofs.Common.{◌≡◌, ℕ, ◌+◌, ◌<◌, ◌≤◌, ◌⊎◌, inl, inr, Bool, true, false, ◌&&◌, if◌then◌else◌, nat_eq}
use Rattle.std.proofs.Common.{List, [], ◌∷◌, length, take, drop, Some, None, Ok, Err, refl, sym, ap, subst}
use Rattle.std.specs.Prelude.{IsErr}
use Rattle.std.specs.List.{starts_with}
use Rattle.std.proofs.lemmas.Bool.{le-leb, lt-leb}
use Rattle.brep_tokens.specs.Bytes.{is_line_end}
use Rattle.brep_tokens.proofs.Standing.{tokens_stand}
use Rattle.brep_tokens.specs.Laws.{ScannerGivesTokens, begun}
use Rattle.brep_tokens.specs.Scan.{coming, head_says, left_after, words_left, words_of}
use Rattle.brep_tokens.specs.State.{Scan}
use Rattle.brep_tokens.specs.Tokens.{Head, Word, after_head, head_at, is_line, line_says, line_size, missing, tokens_of}
use Rattle.brep_tokens.specs.Tokens.{unread, version, version_line, version_mark, words_at}
use Rattle.brep_tokens.specs.declared.fault.ReadCode.TheVariants as codes
use Rattle.brep_tokens.specs.declared.scanner.Next.TheVariants as next

-- a version that is given is 1 or 2
abbrev IsKnown : Head → Type 0
IsKnown missing = Unit {0}
IsKnown (unread line k) = Unit {0}
IsKnown (version v k rest) = (v ≡ 1) ⊎ (v ≡ 2)

if_known : (b : Bool) (x y : Head) → IsKnown x → IsKnown y → IsKnown (if b then x else y)
if_known true x y h k = h
if_known false x y h k = k

line_if : (first second : Bool) (line k after : ℕ) (rest : List ℕ)
    → IsKnown (if first then version 1 after rest else (if second then version 2 after rest else unread line k))
line_if true second line k after rest = inl refl
line_if false true line k after rest = inr refl
line_if false false line k after rest = tt

line_known : (line k : ℕ) (bytes : List ℕ) → IsKnown (line_says line k bytes)
unfolding line_says
line_known line k bytes =
    line_if (is_line (version_line 1) (take (line_size bytes) bytes))
    (is_line (version_line 2) (take (line_size bytes) bytes)) line k (k + (line_size bytes + 1))
    (drop (line_size bytes + 1) bytes)

head_known : (start : Bool) (line k : ℕ) (bytes : List ℕ) → IsKnown (head_at start line k bytes)
head_known start line k [] = tt
head_known start line k (b ∷ bs) =
    let next : ℕ = line + (if is_line_end b then 1 else 0) in
    if_known (start && starts_with nat_eq (b ∷ bs) version_mark) (line_says line k (b ∷ bs))
    (head_at (is_line_end b) next (k + 1) bs) (line_known line k (b ∷ bs))
    (head_known (is_line_end b) next (k + 1) bs)

abbrev Pair : Type 0
Pair = ℕ × List Word

pair_is : (p q : Pair) → Some p ≡ Some q → p ≡ q
pair_is p q e = cc

no_pair : (q : Pair) → None ≡ Some q → ⊥
no_pair q e = cc

head_gives : (size : ℕ) (h : Head) (v : ℕ) (ws : List Word) → IsKnown h → after_head h ≡ Some (v, ws)
    → (head_says size h ≡ Ok (next.Version v)) × (words_of h ≡ ws) × ((v ≡ 1) ⊎ (v ≡ 2))
head_gives size missing v ws known e = absurd (no_pair (v, ws) e)
head_gives size (unread line k) v ws known e = absurd (no_pair (v, ws) e)
head_gives size (version u k rest) v ws known e =
    let p = pair_is (u, words_at k rest) (v, ws) e in
    let first : u ≡ v = ap (λ (q : Pair). q.0) p in
    (ap (λ n. Ok (next.Version n)) first, ap (λ (q : Pair). q.1) p, subst (λ n. (n ≡ 1) ⊎ (n ≡ 2)) first known)

head_fails : (size : ℕ) (h : Head) → after_head h ≡ None → IsErr (head_says size h)
head_fails size missing e = refl
head_fails size (unread line k) e = refl
head_fails size (version v k rest) e = absurd (no_pair (v, words_at k rest) (sym e))

version_given : (bytes : List ℕ) (v : ℕ) (ws : List Word) → tokens_of bytes ≡ Some (v, ws)
    → (coming (begun bytes) ≡ Ok (next.Version v)) × (left_after (begun bytes) ≡ ws) × ((v ≡ 1) ⊎ (v ≡ 2))
unfolding tokens_of
version_given bytes v ws e = head_gives (length bytes) (head_at true 1 0 bytes) v ws (head_known true 1 0 bytes) e

version_missing : (bytes : List ℕ) → tokens_of bytes ≡ None → IsErr (coming (begun bytes))
unfolding tokens_of
version_missing bytes e = head_fails (length bytes) (head_at true 1 0 bytes) e

token_given : (s : Scan) (w : Word) (ws : List Word) → s.headed ≡ true → words_left s ≡ w ∷ ws → length w.text ≤ 128
    → (coming s ≡ Ok (next.Token (record { offset = w.offset; text = w.text }))) × (left_after s ≡ ws)
token_given s w ws headed left short =
    (rw (headed, left, le-leb (length w.text) 128 short) refl, rw (headed, left) refl)

token_refused : (s : Scan) (w : Word) (ws : List Word) → s.headed ≡ true → words_left s ≡ w ∷ ws → 128 < length w.text
    → coming s ≡ Err (record { code = codes.TokenTooLong; offset = w.offset; value = 129; limit = 128 })
token_refused s w ws headed left long = rw (headed, left, lt-leb (length w.text) 128 long) refl

end_given : (s : Scan) → s.headed ≡ true → words_left s ≡ [] → (coming s ≡ Ok (next.End (length s.fed)))
    × (left_after s ≡ [])
end_given s headed left = (rw (headed, left) refl, rw (headed, left) refl)

pub scanner_gives_tokens : ScannerGivesTokens
scanner_gives_tokens = record {
  version = version_given;
  stands = tokens_stand;
  no_version = version_missing;
  token = token_given;
  too_long = token_refused;
  end = end_given;
}
