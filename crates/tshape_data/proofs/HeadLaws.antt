-- A head is read exactly as it is spelled.
use Rattle.std.proofs.Common.{◌≡◌, ℕ, ◌≤◌, Bool, true, false, nat_eq, List, [], ◌∷◌, ◌++◌, drop, Ok, codes, refl, subst}
use Rattle.std.proofs.Common.{arith}
use Rattle.std.specs.Cmp.Lexicographic.{pointwise}
use Rattle.brep_tokens.specs.Laws.{FormsAreExact}
use Rattle.brep_tokens.specs.declared.text.Token.{Token}
use Rattle.entry_readers.specs.Begins.{Begins, FieldsAreExact}
use Rattle.lists.specs.Results.{◌>>=◌}
use Rattle.lists.proofs.Results.{bind_ok, ok_is}
use Rattle.orientation.specs.Kinds.{name_of}
use Rattle.orientation.specs.Laws.{SignsAndNamesTell}
use Rattle.tshape_data.specs.Flags.{flag_code, spell_flags}
use Rattle.tshape_data.specs.HeadReading.{flagged_at, flags_at, head_at, kind_at, payload_at}
use Rattle.tshape_data.specs.Laws.{HeadsAreExact}
use Rattle.tshape_data.specs.RepReading.{most_reps}
use Rattle.tshape_data.specs.Sound.{Fits}
use Rattle.tshape_data.specs.Spelling.{spell_head, spell_payload}
use Rattle.tshape_data.specs.declared.head_bounds.HeadBounds.{HeadBounds}
use Rattle.tshape_data.specs.declared.head.Flags.{Flags}
use Rattle.tshape_data.specs.declared.head.Head.{Head}
use Rattle.tshape_data.proofs.FrameLaws.{flags_again, flags_takes, kind_again, kind_takes}
use Rattle.tshape_data.proofs.PayloadLaws.{IsNotTwo, IsPayload, payload_again, payload_takes}

-- seven flags aren't `2`
not_two : (b : Bool) (c : ℕ) (rest : List ℕ) → pointwise nat_eq (flag_code b ∷ c ∷ rest) (codes "2") ≡ false
not_two true c rest = refl
not_two false c rest = refl

flags_not_two : (ts rest : List Token) (f : Flags) → Begins ts (spell_flags f ∷ []) rest → IsNotTwo ts
flags_not_two [] rest f b = absurd b
flags_not_two (t ∷ ts) rest f b = rw b.0 (not_two f.free (flag_code f.modified) (drop 2 (spell_flags f)))

module _ (forms : FormsAreExact) (fields : FieldsAreExact) (tell : SignsAndNamesTell) (b : HeadBounds) (version : ℕ)
    (few : b.reps ≤ most_reps) where
  takes : (ts rest : List Token) (h : Head) → head_at b version ts ≡ Ok (h, rest)
      → Begins ts (spell_head version h) rest × Fits b version h
  takes ts rest h e =
      let k = bind_ok (kind_at ts) (λ kind. payload_at b version kind.0 kind.1
      >>= λ payload. flagged_at kind.0 payload.0 payload.1) (h, rest) e in
      let p = bind_ok (payload_at b version k.0.0 k.0.1) (λ payload. flagged_at k.0.0 payload.0 payload.1)
      (h, rest) k.2 in
      let f = bind_ok (flags_at p.0.1) (λ flags. Ok (
        record { kind = k.0.0; payload = p.0.0; flags = flags.0 },
        flags.1,
      )) (h, rest) p.2 in
      let same = ok_is (record { kind = k.0.0; payload = p.0.0; flags = f.0.0 }, f.0.1) (h, rest) f.2 in
      let one = kind_takes ts k.0.1 k.0.0 k.1 in
      let two = payload_takes forms fields b version k.0.0 k.0.1 p.0.1 p.0.0 p.1 in
      let three = flags_takes p.0.1 f.0.1 f.0.0 f.1 in
      let begins = fields.joined ts (name_of k.0.0 ∷ []) k.0.1
      (spell_payload version p.0.0 ++ spell_flags f.0.0 ∷ []) f.0.1 one
      (fields.joined k.0.1 (spell_payload version p.0.0) p.0.1 (spell_flags f.0.0 ∷ []) f.0.1 two.begins three) in
      let fits : Fits b version (record { kind = k.0.0; payload = p.0.0; flags = f.0.0 }) =
      record { sound = two.sound; few = omega (arith, two.few, few) } in
      subst (λ (q : Head × List Token). Begins ts (spell_head version q.0) q.1 × Fits b version q.0) same (begins, fits)

  again : (ts rest : List Token) (h : Head) → Begins ts (spell_head version h) rest → Fits b version h
      → head_at b version ts ≡ Ok (h, rest)
  again ts rest h begins fits =
      let k = fields.split ts (name_of h.kind ∷ []) (spell_payload version h.payload ++ spell_flags h.flags
      ∷ []) rest begins in
      let p = fields.split k.0 (spell_payload version h.payload) (spell_flags h.flags ∷ []) rest k.2 in
      let is : IsPayload forms fields b version h.kind k.0 p.0 h.payload =
      record { begins = p.1; sound = fits.sound; few = omega (arith, fits.few) } in
      rw (
        kind_again tell ts k.0 h.kind k.1,
        payload_again forms fields b version h.kind k.0 p.0 h.payload (flags_not_two p.0 rest h.flags p.2) is,
        flags_again p.0 rest h.flags p.2,
      ) refl

pub heads_are_exact : FormsAreExact → FieldsAreExact → SignsAndNamesTell → HeadsAreExact
heads_are_exact forms fields tell b version few = record {
  takes = takes forms fields tell b version few;
  again = again forms fields tell b version few;
}
