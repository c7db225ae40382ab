-- Rows that are kept are the first of those after them.
use Rattle.std.proofs.Common.{◌≡◌, ◌<◌, ◌∙◌, ap, sym, subst, arith, ℕ, List, length, take, get_or}
use Rattle.std.specs.Prelude.{[]}
use Rattle.std.specs.Option.{option_map_or}
use Rattle.std.proofs.lemmas.List.{ext_get_or, get_or-take, length-take-le}
use Rattle.std.proofs.lemmas.Option.{slice_get-get_or}
use Rattle.orientation.specs.declared.kind.Kind.TheVariants.{Co}
use Rattle.shape_pool.specs.Rows.{Row, a_row, kind_at, origin_at, uses_at}
use Rattle.shape_pool.specs.Calls.{Keeps}

row-eq : (a b : Row) → a.kind ≡ b.kind → a.origin ≡ b.origin → a.uses ≡ b.uses → a ≡ b
row-eq a b k o u =
    ap (λ z. a_row z a.origin a.uses) k ∙ ap (λ z. a_row b.kind z a.uses) o ∙ ap (λ z. a_row b.kind b.origin z) u

d : Row
d = a_row Co 0 []

kind-of : (rows : List Row) (i : ℕ) → i < length rows → kind_at rows i ≡ (get_or rows i d).kind
kind-of rows i lt = ap (λ o. option_map_or (λ (r : Row). r.kind) o Co) (slice_get-get_or rows i d lt)

origin-of : (rows : List Row) (i : ℕ) → i < length rows → origin_at rows i ≡ (get_or rows i d).origin
origin-of rows i lt = ap (λ o. option_map_or (λ (r : Row). r.origin) o 0) (slice_get-get_or rows i d lt)

uses-of : (rows : List Row) (i : ℕ) → i < length rows → uses_at rows i ≡ (get_or rows i d).uses
uses-of rows i lt = ap (λ o. option_map_or (λ (r : Row). r.uses) o []) (slice_get-get_or rows i d lt)

pub kept-first : (old new : List Row) → Keeps old new → take (length old) new ≡ old
kept-first old new k =
    let size = length-take-le (length old) new k.grows in
    ext_get_or d (take (length old) new) old size
    (λ i lt.
    let within : i < length old = subst (λ n. i < n) size lt in
    let grown : i < length new = omega (arith, within, k.grows) in
    get_or-take (length old) new i d within ∙
    row-eq (get_or new i d) (get_or old i d)
    (sym (kind-of new i grown) ∙ k.kinds i within ∙ kind-of old i within)
    (sym (origin-of new i grown) ∙ k.origins i within ∙ origin-of old i within)
    (sym (uses-of new i grown) ∙ k.uses i within ∙ uses-of old i within))
