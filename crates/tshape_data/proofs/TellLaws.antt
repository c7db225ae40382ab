-- Tokens spell one head at most, however many representations it has.
use Rattle.std.proofs.Common.{◌≡◌, ℕ, ◌+◌, ◌≤◌, Bool, true, false, nat_eq, List, [], ◌∷◌, ◌++◌, drop, length, Ok, codes}
use Rattle.std.proofs.Common.{refl, sym, subst, ◌∙◌, arith}
use Rattle.std.specs.Cmp.Lexicographic.{pointwise}
use Rattle.std.specs.List.{flat_map}
use Rattle.brep_tokens.specs.Forms.{flag_text}
use Rattle.brep_tokens.specs.Laws.{FormsAreExact}
use Rattle.brep_tokens.specs.declared.text.Token.{Token}
use Rattle.entry_readers.specs.Begins.{Begins, FieldsAreExact}
use Rattle.lists.specs.Results.{◌>>=◌}
use Rattle.entry_readers.specs.Reading.{Read, decimals_at, flag_at}
use Rattle.lists.proofs.Results.{ok_is}
use Rattle.orientation.specs.declared.kind.Kind.{Kind}
use Rattle.orientation.specs.declared.kind.Kind.TheVariants.{Ve, Ed, Wi, Fa, Sh, So, CS, Co}
use Rattle.orientation.specs.Kinds.{name_of}
use Rattle.orientation.specs.Laws.{SignsAndNamesTell}
use Rattle.tshape_data.specs.Flags.{flag_code, spell_flags}
use Rattle.tshape_data.specs.HeadReading.{flagged_at, kind_at, payload_at}
use Rattle.tshape_data.specs.Laws.{HeadsTell, headed}
use Rattle.tshape_data.specs.Parts.{edge_flags}
use Rattle.tshape_data.specs.RepReading.{edge_form_at, edge_rep_at, edge_reps_at, param_at, point_rep_at, points_at}
use Rattle.tshape_data.specs.Sound.{IsSoundEdge, IsSoundEdgeRep, IsSoundHead, IsSoundPayload, IsSoundPoint}
use Rattle.tshape_data.specs.Sound.{IsSoundVertex, rep_count, sizes}
use Rattle.tshape_data.specs.Spelling.{spell_head, spell_payload}
use Rattle.tshape_data.specs.declared.head_bounds.HeadBounds.{HeadBounds}
use Rattle.tshape_data.specs.declared.head.EdgeData.{EdgeData}
use Rattle.tshape_data.specs.declared.head.Flags.{Flags}
use Rattle.tshape_data.specs.declared.head.Head.{Head}
use Rattle.tshape_data.specs.declared.head.Payload.{Payload}
use Rattle.tshape_data.specs.declared.head.Payload.TheVariants.{Vertex, Edge, Face, Nothing}
use Rattle.tshape_data.specs.declared.head.VertexData.{VertexData}
use Rattle.tshape_data.proofs.EdgeLaws.{edge_reps_exact}
use Rattle.tshape_data.proofs.FrameLaws.{flags_again, kind_again}
use Rattle.tshape_data.proofs.PayloadLaws.{IsNotTwo, payload_again}
use Rattle.tshape_data.proofs.PayloadTexts.{edge_end, edge_rep_texts, edge_reps_texts, edge_spelled, point_rep_texts}
use Rattle.tshape_data.proofs.PayloadTexts.{vertex_end, vertex_spelled}
use Rattle.tshape_data.proofs.PointLaws.{points_exact}
use Rattle.tshape_data.proofs.RepsLaws.{reps_again}

-- seven flags aren't `2`
not_two : (b : Bool) (c : ℕ) (rest : List ℕ) → pointwise nat_eq (flag_code b ∷ c ∷ rest) (codes "2") ≡ false
not_two true c rest = refl
not_two false c rest = refl

flags_not_two : (ts rest : List Token) (f : Flags) → Begins ts (spell_flags f ∷ []) rest → IsNotTwo ts
flags_not_two [] rest f b = absurd b
flags_not_two (t ∷ ts) rest f b = rw b.0 (not_two f.free (flag_code f.modified) (drop 2 (spell_flags f)))

-- ---- reading where there is room for any number of representations

module _ (forms : FormsAreExact) (fields : FieldsAreExact) (tell : SignsAndNamesTell) (b : HeadBounds)
    (version room : ℕ) where
  abbrev done : Payload × List Token → Read Payload
  done x = Ok x

  abbrev vertex_within : List Token → Read Payload
  vertex_within ts = decimals_at 4 ts >>= λ texts. points_at b room texts.1
      >>= λ points. done (Vertex (record { texts = texts.0; points = points.0 }), points.1)

  vertex_read : (ts rest : List Token) (d : VertexData) → length d.points ≤ room → IsSoundVertex (sizes b) d
      → Begins ts (spell_payload version (Vertex d)) rest → vertex_within ts ≡ Ok (Vertex d, rest)
  vertex_read ts rest d few sound spelled =
      let begins = subst (λ (z : List (List ℕ)). Begins ts z rest) (vertex_spelled version d) spelled in
      let s = fields.split ts d.texts (flat_map point_rep_texts d.points ++ vertex_end) rest begins in
      let reps : points_at b room s.0 ≡ Ok (d.points, rest) =
      reps_again param_at (point_rep_at b) point_rep_texts vertex_end (IsSoundPoint (sizes b)) fields
      (points_exact forms fields b) room [] d.points s.0 rest s.2 sound.points few in
      rw ((fields.decimals 4).again ts s.0 d.texts s.1 sound.decimals, reps) refl

  abbrev edge_within : List Token → Read Payload
  edge_within ts =
      decimals_at 1 ts >>= λ tolerance. flag_at tolerance.1 >>= λ same_parameter. flag_at same_parameter.1
      >>= λ same_range. flag_at same_range.1 >>= λ degenerated.
      edge_reps_at b version room degenerated.1 >>= λ reps.
      done (
        Edge (record {
          tolerance = tolerance.0;
          same_parameter = same_parameter.0;
          same_range = same_range.0;
          degenerated = degenerated.0;
          reps = reps.0;
        }),
        reps.1,
      )

  edge_read : (ts rest : List Token) (d : EdgeData) → length d.reps ≤ room → IsSoundEdge (sizes b) version d
      → Begins ts (spell_payload version (Edge d)) rest → edge_within ts ≡ Ok (Edge d, rest)
  edge_read ts rest d few sound spelled =
      let begins = subst (λ (z : List (List ℕ)). Begins ts z rest) (edge_spelled version d) spelled in
      let after = edge_reps_texts version d.reps in
      let s = fields.split ts d.tolerance (edge_flags d ++ after) rest begins in
      let f1 = fields.split s.0 (flag_text d.same_parameter ∷ [])
      (flag_text d.same_range ∷ flag_text d.degenerated ∷ after) rest s.2 in
      let f2 = fields.split f1.0 (flag_text d.same_range ∷ []) (flag_text d.degenerated ∷ after) rest f1.2 in
      let f3 = fields.split f2.0 (flag_text d.degenerated ∷ []) after rest f2.2 in
      let reps : edge_reps_at b version room f3.0 ≡ Ok (d.reps, rest) =
      reps_again edge_form_at (edge_rep_at b version) (edge_rep_texts version) edge_end
      (IsSoundEdgeRep (sizes b) version) fields (edge_reps_exact forms fields b version) room [] d.reps f3.0 rest
      f3.2 sound.reps few in
      rw (
        (fields.decimals 1).again ts s.0 d.tolerance s.1 sound.decimals,
        fields.flag.again s.0 f1.0 d.same_parameter f1.1 tt,
        fields.flag.again f1.0 f2.0 d.same_range f2.1 tt,
        fields.flag.again f2.0 f3.0 d.degenerated f3.1 tt,
        reps,
      ) refl

  abbrev payload_within : Kind → List Token → Read Payload
  payload_within Ve ts = vertex_within ts
  payload_within Ed ts = edge_within ts
  payload_within k ts = payload_at b version k ts

  others_read : (k : Kind) (ts rest : List Token) (p : Payload) → IsNotTwo rest → rep_count p ≡ 0
      → IsSoundPayload (sizes b) version k p → Begins ts (spell_payload version p) rest
      → payload_at b version k ts ≡ Ok (p, rest)
  others_read k ts rest p other none sound begins = payload_again forms fields b version k ts rest p other
      (record { begins = begins; sound = sound; few = omega (arith, none) })

  payload_read : (k : Kind) (ts rest : List Token) (p : Payload) → IsNotTwo rest → rep_count p ≤ room
      → IsSoundPayload (sizes b) version k p → Begins ts (spell_payload version p) rest
      → payload_within k ts ≡ Ok (p, rest)
  payload_read Ve ts rest (Vertex d) other few sound begins = vertex_read ts rest d few sound begins
  payload_read Ed ts rest (Edge d) other few sound begins = edge_read ts rest d few sound begins
  payload_read Fa ts rest (Face d) other few sound begins = others_read Fa ts rest (Face d) other refl sound begins
  payload_read Wi ts rest Nothing other few sound begins = others_read Wi ts rest Nothing other refl sound begins
  payload_read Sh ts rest Nothing other few sound begins = others_read Sh ts rest Nothing other refl sound begins
  payload_read So ts rest Nothing other few sound begins = others_read So ts rest Nothing other refl sound begins
  payload_read CS ts rest Nothing other few sound begins = others_read CS ts rest Nothing other refl sound begins
  payload_read Co ts rest Nothing other few sound begins = others_read Co ts rest Nothing other refl sound begins
  payload_read _ ts rest _ other few sound begins = absurd sound

  abbrev head_within : List Token → Read Head
  head_within ts = kind_at ts >>= λ kind. payload_within kind.0 kind.1
      >>= λ payload. flagged_at kind.0 payload.0 payload.1

  head_read : (ts rest : List Token) (h : Head) → rep_count h.payload ≤ room → IsSoundHead (sizes b) version h
      → Begins ts (spell_head version h) rest → head_within ts ≡ Ok (h, rest)
  head_read ts rest h few sound begins =
      let k = fields.split ts (name_of h.kind ∷ []) (spell_payload version h.payload ++ spell_flags h.flags
      ∷ []) rest begins in
      let p = fields.split k.0 (spell_payload version h.payload) (spell_flags h.flags ∷ []) rest k.2 in
      rw (
        kind_again tell ts k.0 h.kind k.1,
        payload_read h.kind k.0 p.0 h.payload (flags_not_two p.0 rest h.flags p.2) few sound p.1,
        flags_again p.0 rest h.flags p.2,
      ) refl

-- ---- one head at most

pub heads_tell : FormsAreExact → FieldsAreExact → SignsAndNamesTell → HeadsTell
heads_tell forms fields tell b version h g ts rest other sound_h sound_g begins_h begins_g =
    let room = rep_count h.payload + rep_count g.payload in
    let one = head_read forms fields tell b version room ts rest h (omega arith) sound_h begins_h in
    let two = head_read forms fields tell b version room ts other g (omega arith) sound_g begins_g in
    ok_is (headed h rest) (headed g other) (sym one ∙ two)
