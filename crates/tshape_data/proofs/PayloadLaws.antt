-- The data of each kind of record are read exactly as they are spelled.
use Rattle.std.proofs.Common.{◌≡◌, ℕ, ◌≤◌, Bool, true, false, if◌then◌else◌, nat_eq, List, [], ◌∷◌, ◌++◌, Option, Some}
use Rattle.std.proofs.Common.{None, Ok, codes, refl, sym, subst, arith}
use Rattle.std.specs.Cmp.Lexicographic.{pointwise}
use Rattle.std.specs.Fmt.{decimal}
use Rattle.std.specs.List.{flat_map}
use Rattle.std.proofs.lemmas.Slice.Eq.{bytes_eq-Decides}
use Rattle.brep_tokens.specs.Forms.{flag_text}
use Rattle.brep_tokens.specs.Laws.{FormsAreExact}
use Rattle.brep_tokens.specs.declared.text.Token.{Token}
use Rattle.entry_readers.specs.Begins.{Begins, FieldsAreExact}
use Rattle.lists.specs.Results.{◌>>=◌}
use Rattle.entry_readers.specs.Reading.{Read, decimals_at, flag_at, ranged_at}
use Rattle.lists.proofs.Results.{bind_ok, ok_is}
use Rattle.orientation.specs.declared.kind.Kind.{Kind}
use Rattle.orientation.specs.declared.kind.Kind.TheVariants.{Ve, Ed, Wi, Fa, Sh, So, CS, Co}
use Rattle.tshape_data.specs.HeadReading.{edge_at, face_at, mesh_at, payload_at, room_of, vertex_at}
use Rattle.tshape_data.specs.Parts.{edge_flags}
use Rattle.tshape_data.specs.RepReading.{edge_form_at, edge_rep_at, edge_reps_at, param_at, point_rep_at, points_at}
use Rattle.tshape_data.specs.Sound.{IsMesh, IsSoundEdgeRep, IsSoundPayload, IsSoundPoint, rep_count, sizes}
use Rattle.tshape_data.specs.Spelling.{spell_payload}
use Rattle.tshape_data.specs.declared.head_bounds.HeadBounds.{HeadBounds}
use Rattle.tshape_data.specs.declared.reps.PointRep.{PointRep}
use Rattle.tshape_data.specs.declared.reps.EdgeRep.{EdgeRep}
use Rattle.tshape_data.specs.declared.head.VertexData.{VertexData}
use Rattle.tshape_data.specs.declared.head.EdgeData.{EdgeData}
use Rattle.tshape_data.specs.declared.head.FaceData.{FaceData}
use Rattle.tshape_data.specs.declared.head.Payload.{Payload}
use Rattle.tshape_data.specs.declared.head.Payload.TheVariants.{Vertex, Edge, Face, Nothing}
use Rattle.tshape_data.proofs.EdgeLaws.{edge_reps_exact}
use Rattle.tshape_data.proofs.PayloadTexts.{edge_end, edge_rep_texts, edge_reps_texts, edge_spelled, face_spelled}
use Rattle.tshape_data.proofs.PayloadTexts.{mesh_texts, point_rep_texts, vertex_end, vertex_spelled}
use Rattle.tshape_data.proofs.PointLaws.{points_exact}
use Rattle.tshape_data.proofs.RepsLaws.{reps_again, reps_takes}

-- the next token isn't `2`
abbrev pub IsNotTwo : List Token → Type 0
IsNotTwo [] = ⊥
IsNotTwo (t ∷ ts) = pointwise nat_eq t.text (codes "2") ≡ false

module _ (forms : FormsAreExact) (fields : FieldsAreExact) (b : HeadBounds) where
  -- data that were read
  pub record IsPayload (version : ℕ) (k : Kind) (ts rest : List Token) (p : Payload) : Type 0 where
    pub begins : Begins ts (spell_payload version p) rest
    pub sound : IsSoundPayload (sizes b) version k p
    pub few : rep_count p ≤ room_of b

  abbrev done : Payload × List Token → Read Payload
  done x = Ok x

  -- ---- a vertex

  abbrev vertex_of : List (List ℕ) → List PointRep → Payload
  vertex_of texts points = Vertex (record { texts = texts; points = points })

  vertex_takes : (version : ℕ) (ts rest : List Token) (p : Payload) → vertex_at b ts ≡ Ok (p, rest)
      → IsPayload version Ve ts rest p
  vertex_takes version ts rest p e =
      let x = bind_ok (decimals_at 4 ts) (λ texts. points_at b (room_of b) texts.1
      >>= λ points. done (vertex_of texts.0 points.0, points.1)) (p, rest) e in
      let r = bind_ok (points_at b (room_of b) x.0.1) (λ points. done (vertex_of x.0.0 points.0, points.1))
      (p, rest) x.2 in
      let same = ok_is (vertex_of x.0.0 r.0.0, r.0.1) (p, rest) r.2 in
      let one = (fields.decimals 4).takes ts x.0.1 x.0.0 x.1 in
      let reps = reps_takes param_at (point_rep_at b) point_rep_texts vertex_end (IsSoundPoint (sizes b)) fields
      (points_exact forms fields b) (room_of b) [] x.0.1 r.0.1 r.0.0 r.1 in
      let begins = fields.joined ts x.0.0 x.0.1 (flat_map point_rep_texts reps.new ++ vertex_end) r.0.1
      one.0 reps.begins in
      let whole : IsPayload version Ve ts r.0.1 (vertex_of x.0.0 reps.new) = record {
        begins = subst (λ (z : List (List ℕ)). Begins ts z r.0.1)
            (sym (vertex_spelled version (record { texts = x.0.0; points = reps.new }))) begins;
        sound = record { decimals = one.1; points = reps.sound };
        few = reps.few;
      } in
      subst (λ (q : Payload × List Token). IsPayload version Ve ts q.1 q.0) same
      (subst (λ (points : List PointRep). IsPayload version Ve ts r.0.1 (vertex_of x.0.0 points)) (sym reps.all) whole)

  vertex_again : (version : ℕ) (ts rest : List Token) (d : VertexData) → IsPayload version Ve ts rest (Vertex d)
      → vertex_at b ts ≡ Ok (Vertex d, rest)
  vertex_again version ts rest d is =
      let begins = subst (λ (z : List (List ℕ)). Begins ts z rest) (vertex_spelled version d) is.begins in
      let s = fields.split ts d.texts (flat_map point_rep_texts d.points ++ vertex_end) rest begins in
      let reps : points_at b (room_of b) s.0 ≡ Ok (d.points, rest) =
      reps_again param_at (point_rep_at b) point_rep_texts vertex_end (IsSoundPoint (sizes b)) fields
      (points_exact forms fields b) (room_of b) [] d.points s.0 rest s.2 is.sound.points is.few in
      rw ((fields.decimals 4).again ts s.0 d.texts s.1 is.sound.decimals, reps) refl

  -- ---- an edge

  abbrev edge_of : List (List ℕ) → Bool → Bool → Bool → List EdgeRep → Payload
  edge_of tolerance same_parameter same_range degenerated reps =
      Edge (record {
        tolerance = tolerance;
        same_parameter = same_parameter;
        same_range = same_range;
        degenerated = degenerated;
        reps = reps;
      })

  -- what is read behind the flags, and behind each of them
  abbrev reps_behind : ℕ → List (List ℕ) → Bool → Bool → Bool × List Token → Read Payload
  reps_behind version tolerance same_parameter same_range degenerated =
      edge_reps_at b version (room_of b) degenerated.1
      >>= λ reps. done (edge_of tolerance same_parameter same_range degenerated.0 reps.0, reps.1)

  abbrev third_behind : ℕ → List (List ℕ) → Bool → Bool × List Token → Read Payload
  third_behind version tolerance same_parameter same_range = flag_at same_range.1
      >>= reps_behind version tolerance same_parameter same_range.0

  abbrev second_behind : ℕ → List (List ℕ) → Bool × List Token → Read Payload
  second_behind version tolerance same_parameter = flag_at same_parameter.1
      >>= third_behind version tolerance same_parameter.0

  edge_takes : (version : ℕ) (ts rest : List Token) (p : Payload) → edge_at b version ts ≡ Ok (p, rest)
      → IsPayload version Ed ts rest p
  edge_takes version ts rest p e =
      let x = bind_ok (decimals_at 1 ts) (λ tolerance. flag_at tolerance.1 >>= second_behind version tolerance.0)
      (p, rest) e in
      let f1 = bind_ok (flag_at x.0.1) (second_behind version x.0.0) (p, rest) x.2 in
      let f2 = bind_ok (flag_at f1.0.1) (third_behind version x.0.0 f1.0.0) (p, rest) f1.2 in
      let f3 = bind_ok (flag_at f2.0.1) (reps_behind version x.0.0 f1.0.0 f2.0.0) (p, rest) f2.2 in
      let r = bind_ok (edge_reps_at b version (room_of b) f3.0.1)
      (λ reps. done (edge_of x.0.0 f1.0.0 f2.0.0 f3.0.0 reps.0, reps.1)) (p, rest) f3.2 in
      let same = ok_is (edge_of x.0.0 f1.0.0 f2.0.0 f3.0.0 r.0.0, r.0.1) (p, rest) r.2 in
      let one = (fields.decimals 1).takes ts x.0.1 x.0.0 x.1 in
      let reps = reps_takes edge_form_at (edge_rep_at b version) (edge_rep_texts version) edge_end
      (IsSoundEdgeRep (sizes b) version) fields (edge_reps_exact forms fields b version)
      (room_of b) [] f3.0.1 r.0.1 r.0.0 r.1 in
      let after = edge_reps_texts version reps.new in
      let begins = fields.joined ts x.0.0 x.0.1 (flag_text f1.0.0 ∷ flag_text f2.0.0 ∷ flag_text f3.0.0
      ∷ after) r.0.1 one.0
      (fields.joined x.0.1 (flag_text f1.0.0 ∷ []) f1.0.1 (flag_text f2.0.0 ∷ flag_text f3.0.0 ∷ after) r.0.1
      (fields.flag.takes x.0.1 f1.0.1 f1.0.0 f1.1).0
      (fields.joined f1.0.1 (flag_text f2.0.0 ∷ []) f2.0.1 (flag_text f3.0.0 ∷ after) r.0.1
      (fields.flag.takes f1.0.1 f2.0.1 f2.0.0 f2.1).0
      (fields.joined f2.0.1 (flag_text f3.0.0 ∷ []) f3.0.1 after r.0.1 (fields.flag.takes f2.0.1 f3.0.1 f3.0.0 f3.1).0
      reps.begins))) in
      let whole : IsPayload version Ed ts r.0.1 (edge_of x.0.0 f1.0.0 f2.0.0 f3.0.0 reps.new) = record {
        begins = subst (λ (z : List (List ℕ)). Begins ts z r.0.1)
            (sym (edge_spelled version (record {
              tolerance = x.0.0;
              same_parameter = f1.0.0;
              same_range = f2.0.0;
              degenerated = f3.0.0;
              reps = reps.new;
            }))) begins;
        sound = record { decimals = one.1; reps = reps.sound };
        few = reps.few;
      } in
      subst (λ (q : Payload × List Token). IsPayload version Ed ts q.1 q.0) same
      (subst (λ (new : List EdgeRep). IsPayload version Ed ts r.0.1 (edge_of x.0.0 f1.0.0 f2.0.0 f3.0.0 new))
      (sym reps.all) whole)

  edge_again : (version : ℕ) (ts rest : List Token) (d : EdgeData) → IsPayload version Ed ts rest (Edge d)
      → edge_at b version ts ≡ Ok (Edge d, rest)
  edge_again version ts rest d is =
      let begins = subst (λ (z : List (List ℕ)). Begins ts z rest) (edge_spelled version d) is.begins in
      let after = edge_reps_texts version d.reps in
      let s = fields.split ts d.tolerance (edge_flags d ++ after) rest begins in
      let f1 = fields.split s.0 (flag_text d.same_parameter ∷ [])
      (flag_text d.same_range ∷ flag_text d.degenerated ∷ after) rest s.2 in
      let f2 = fields.split f1.0 (flag_text d.same_range ∷ []) (flag_text d.degenerated ∷ after) rest f1.2 in
      let f3 = fields.split f2.0 (flag_text d.degenerated ∷ []) after rest f2.2 in
      let reps : edge_reps_at b version (room_of b) f3.0 ≡ Ok (d.reps, rest) =
      reps_again edge_form_at (edge_rep_at b version) (edge_rep_texts version) edge_end
      (IsSoundEdgeRep (sizes b) version) fields (edge_reps_exact forms fields b version) (room_of b) [] d.reps f3.0
      rest f3.2 is.sound.reps is.few in
      rw (
        (fields.decimals 1).again ts s.0 d.tolerance s.1 is.sound.decimals,
        fields.flag.again s.0 f1.0 d.same_parameter f1.1 tt,
        fields.flag.again f1.0 f2.0 d.same_range f2.1 tt,
        fields.flag.again f2.0 f3.0 d.degenerated f3.1 tt,
        reps,
      ) refl

  -- ---- a face

  abbrev found : Option ℕ × List Token → Read (Option ℕ)
  found x = Ok x

  mesh_if : (x : Bool) (t : Token) (ts rest : List Token) (mesh : Option ℕ) → pointwise nat_eq t.text (codes "2") ≡ x
      → (if x then (ranged_at 1 b.meshes ts >>= λ n. found (Some n.0, n.1)) else found (None, t ∷ ts)) ≡ found
      (mesh, rest) → Begins (t ∷ ts) (mesh_texts mesh) rest × IsMesh (sizes b) mesh
  mesh_if true t ts rest mesh is e =
      let n = bind_ok (ranged_at 1 b.meshes ts) (λ n. found (Some n.0, n.1)) (mesh, rest) e in
      let p = ok_is (Some n.0.0, n.0.1) (mesh, rest) n.2 in
      let one = (fields.ranged 1 b.meshes).takes ts n.0.1 n.0.0 n.1 in
      subst (λ (q : Option ℕ × List Token). Begins (t ∷ ts) (mesh_texts q.0) q.1 × IsMesh (sizes b) q.0) p
      (((bytes_eq-Decides t.text (codes "2")).0 is, one.0), one.1)
  mesh_if false t ts rest mesh is e =
      let p = ok_is (None, t ∷ ts) (mesh, rest) e in
      subst (λ (q : Option ℕ × List Token). Begins (t ∷ ts) (mesh_texts q.0) q.1 × IsMesh (sizes b) q.0) p (refl, tt)

  mesh_takes : (ts rest : List Token) (mesh : Option ℕ) → mesh_at b ts ≡ Ok (mesh, rest)
      → Begins ts (mesh_texts mesh) rest × IsMesh (sizes b) mesh
  mesh_takes [] rest mesh e = absurd cc
  mesh_takes (t ∷ ts) rest mesh e = mesh_if (pointwise nat_eq t.text (codes "2")) t ts rest mesh refl e

  mesh_again : (ts rest : List Token) (mesh : Option ℕ) → IsNotTwo rest → Begins ts (mesh_texts mesh) rest
      → IsMesh (sizes b) mesh → mesh_at b ts ≡ Ok (mesh, rest)
  mesh_again [] rest None not_two begins is = absurd (subst IsNotTwo (sym begins) not_two)
  mesh_again (t ∷ ts) rest None not_two begins is =
      let other : IsNotTwo (t ∷ ts) = subst IsNotTwo (sym begins) not_two in
      rw (other, begins) refl
  mesh_again [] rest (Some mesh) not_two begins is = absurd begins
  mesh_again (t ∷ ts) rest (Some mesh) not_two begins is =
      let two : pointwise nat_eq t.text (codes "2") ≡ true = (bytes_eq-Decides t.text (codes "2")).1 begins.0 in
      rw (two, (fields.ranged 1 b.meshes).again ts rest mesh begins.1 is) refl

  abbrev face_of : Bool → List (List ℕ) → ℕ → ℕ → Option ℕ → Payload
  face_of natural tolerance surface location mesh =
      Face (record { natural = natural; tolerance = tolerance; surface = surface; location = location; mesh = mesh })

  -- what is read behind each field
  abbrev mesh_behind : Bool → List (List ℕ) → ℕ → ℕ × List Token → Read Payload
  mesh_behind natural tolerance surface location = mesh_at b location.1
      >>= λ mesh. done (face_of natural tolerance surface location.0 mesh.0, mesh.1)

  abbrev location_behind : Bool → List (List ℕ) → ℕ × List Token → Read Payload
  location_behind natural tolerance surface = ranged_at 0 b.locations surface.1
      >>= mesh_behind natural tolerance surface.0

  abbrev surface_behind : Bool → List (List ℕ) × List Token → Read Payload
  surface_behind natural tolerance = ranged_at 0 b.surfaces tolerance.1 >>= location_behind natural tolerance.0

  face_takes : (version : ℕ) (ts rest : List Token) (p : Payload) → face_at b ts ≡ Ok (p, rest)
      → IsPayload version Fa ts rest p
  face_takes version ts rest p e =
      let f = bind_ok (flag_at ts) (λ natural. decimals_at 1 natural.1 >>= surface_behind natural.0) (p, rest) e in
      let x = bind_ok (decimals_at 1 f.0.1) (surface_behind f.0.0) (p, rest) f.2 in
      let s = bind_ok (ranged_at 0 b.surfaces x.0.1) (location_behind f.0.0 x.0.0) (p, rest) x.2 in
      let l = bind_ok (ranged_at 0 b.locations s.0.1) (mesh_behind f.0.0 x.0.0 s.0.0) (p, rest) s.2 in
      let m = bind_ok (mesh_at b l.0.1) (λ mesh. done (face_of f.0.0 x.0.0 s.0.0 l.0.0 mesh.0, mesh.1)) (p, rest) l.2 in
      let same = ok_is (face_of f.0.0 x.0.0 s.0.0 l.0.0 m.0.0, m.0.1) (p, rest) m.2 in
      let flag = (fields.flag.takes ts f.0.1 f.0.0 f.1).0 in
      let tolerance = (fields.decimals 1).takes f.0.1 x.0.1 x.0.0 x.1 in
      let surface = (fields.ranged 0 b.surfaces).takes x.0.1 s.0.1 s.0.0 s.1 in
      let location = (fields.ranged 0 b.locations).takes s.0.1 l.0.1 l.0.0 l.1 in
      let mesh = mesh_takes l.0.1 m.0.1 m.0.0 m.1 in
      let begins = fields.joined ts (flag_text f.0.0 ∷ []) f.0.1
      (x.0.0 ++ decimal s.0.0 ∷ decimal l.0.0 ∷ mesh_texts m.0.0) m.0.1 flag
      (fields.joined f.0.1 x.0.0 x.0.1 (decimal s.0.0 ∷ decimal l.0.0 ∷ mesh_texts m.0.0) m.0.1 tolerance.0
      (fields.joined x.0.1 (decimal s.0.0 ∷ []) s.0.1 (decimal l.0.0 ∷ mesh_texts m.0.0) m.0.1 surface.0
      (fields.joined s.0.1 (decimal l.0.0 ∷ []) l.0.1 (mesh_texts m.0.0) m.0.1 location.0 mesh.0))) in
      let whole : IsPayload version Fa ts m.0.1 (face_of f.0.0 x.0.0 s.0.0 l.0.0 m.0.0) = record {
        begins = subst (λ (z : List (List ℕ)). Begins ts z m.0.1)
            (sym (face_spelled version (record {
              natural = f.0.0;
              tolerance = x.0.0;
              surface = s.0.0;
              location = l.0.0;
              mesh = m.0.0;
            }))) begins;
        sound = record { decimals = tolerance.1; surface = surface.1; location = location.1; mesh = mesh.1 };
        few = omega arith;
      } in
      subst (λ (q : Payload × List Token). IsPayload version Fa ts q.1 q.0) same whole

  face_again : (version : ℕ) (ts rest : List Token) (d : FaceData) → IsNotTwo rest
      → IsPayload version Fa ts rest (Face d) → face_at b ts ≡ Ok (Face d, rest)
  face_again version ts rest d not_two is =
      let begins = subst (λ (z : List (List ℕ)). Begins ts z rest) (face_spelled version d) is.begins in
      let f = fields.split ts (flag_text d.natural ∷ []) (d.tolerance ++ decimal d.surface ∷ decimal d.location
      ∷ mesh_texts d.mesh) rest begins in
      let x = fields.split f.0 d.tolerance (decimal d.surface ∷ decimal d.location ∷ mesh_texts d.mesh) rest f.2 in
      let s = fields.split x.0 (decimal d.surface ∷ []) (decimal d.location ∷ mesh_texts d.mesh) rest x.2 in
      let l = fields.split s.0 (decimal d.location ∷ []) (mesh_texts d.mesh) rest s.2 in
      rw (
        fields.flag.again ts f.0 d.natural f.1 tt,
        (fields.decimals 1).again f.0 x.0 d.tolerance x.1 is.sound.decimals,
        (fields.ranged 0 b.surfaces).again x.0 s.0 d.surface s.1 is.sound.surface,
        (fields.ranged 0 b.locations).again s.0 l.0 d.location l.1 is.sound.location,
        mesh_again l.0 rest d.mesh not_two l.2 is.sound.mesh,
      ) refl

  -- ---- any kind

  nothing_takes : (version : ℕ) (k : Kind) (ts rest : List Token) (p : Payload)
      → IsSoundPayload (sizes b) version k Nothing → done (Nothing, ts) ≡ done (p, rest) → IsPayload version k ts rest p
  nothing_takes version k ts rest p is e =
      let nothing : IsPayload version k ts ts Nothing = record { begins = refl; sound = is; few = omega arith } in
      subst (λ (q : Payload × List Token). IsPayload version k ts q.1 q.0) (ok_is (Nothing, ts) (p, rest) e) nothing

  pub payload_takes : (version : ℕ) (k : Kind) (ts rest : List Token) (p : Payload)
      → payload_at b version k ts ≡ Ok (p, rest) → IsPayload version k ts rest p
  payload_takes version Ve ts rest p e = vertex_takes version ts rest p e
  payload_takes version Ed ts rest p e = edge_takes version ts rest p e
  payload_takes version Fa ts rest p e = face_takes version ts rest p e
  payload_takes version Wi ts rest p e = nothing_takes version Wi ts rest p tt e
  payload_takes version Sh ts rest p e = nothing_takes version Sh ts rest p tt e
  payload_takes version So ts rest p e = nothing_takes version So ts rest p tt e
  payload_takes version CS ts rest p e = nothing_takes version CS ts rest p tt e
  payload_takes version Co ts rest p e = nothing_takes version Co ts rest p tt e

  pub payload_again : (version : ℕ) (k : Kind) (ts rest : List Token) (p : Payload) → IsNotTwo rest
      → IsPayload version k ts rest p → payload_at b version k ts ≡ Ok (p, rest)
  payload_again version Ve ts rest (Vertex d) not_two is = vertex_again version ts rest d is
  payload_again version Ed ts rest (Edge d) not_two is = edge_again version ts rest d is
  payload_again version Fa ts rest (Face d) not_two is = face_again version ts rest d not_two is
  payload_again version Wi ts rest Nothing not_two is = rw is.begins refl
  payload_again version Sh ts rest Nothing not_two is = rw is.begins refl
  payload_again version So ts rest Nothing not_two is = rw is.begins refl
  payload_again version CS ts rest Nothing not_two is = rw is.begins refl
  payload_again version Co ts rest Nothing not_two is = rw is.begins refl
  payload_again version _ ts rest _ not_two is = absurd is.sound
