-- How many records were read.
use Rattle.std.proofs.Common.{◌≡◌, ℕ, zero, suc, ◌+◌, List, length, Ok, ap, sym, ◌∙◌, arith}
use Rattle.std.proofs.lemmas.List.{length-append}
use Rattle.brep_tokens.specs.declared.text.Token.{Token}
use Rattle.lists.proofs.Results.{bind_ok, ok_is}
use Rattle.tshape_data.specs.HeadReading.{head_at}
use Rattle.brep_file.specs.Many.{many_from}
use Rattle.brep_file.specs.RecordReading.{RecordBounds, SoFar, none_gathered, record_at, used, uses_from, with_record}

one_longer : (b : RecordBounds) (s : SoFar) (ts rest : List Token) (x : SoFar) → record_at b s ts ≡ Ok (x, rest)
    → length x.records ≡ length s.records + 1
one_longer b s ts rest x e =
    let h = bind_ok (head_at (record b.tables { reps = s.reps }) b.version ts)
    (λ head. used s head.0 (uses_from b s head.0.kind none_gathered head.1)) (x, rest) e in
    let u = bind_ok (uses_from b s h.0.0.kind none_gathered h.0.1) (λ g. Ok (with_record s h.0.0 g.0, g.1))
    (x, rest) h.2 in
    let pair = ok_is (with_record s h.0.0 u.0.0, u.0.1) (x, rest) u.2 in
    sym (ap (λ (q : SoFar × List Token). length q.0.records) pair) ∙ length-append s.records _

pub many_longer : (b : RecordBounds) (n : ℕ) (s : SoFar) (ts rest : List Token) (x : SoFar)
    → many_from (record_at b) s n ts ≡ Ok (x, rest) → length x.records ≡ length s.records + n
many_longer b zero s ts rest x e =
    let same : length x.records ≡ length s.records =
    sym (ap (λ (q : SoFar × List Token). length q.0.records) (ok_is (s, ts) (x, rest) e)) in
    omega (arith, same)
many_longer b (suc n) s ts rest x e =
    let r = bind_ok (record_at b s ts) (λ r. many_from (record_at b) r.0 n r.1) (x, rest) e in
    let first = one_longer b s ts r.0.1 r.0.0 r.1 in
    let others = many_longer b n r.0.0 r.0.1 rest x r.2 in
    omega (arith, first, others)
