-- A mesh is read exactly as it is spelled.
use Rattle.std.proofs.Common.{◌≡◌, ℕ, ◌*◌, List, [], ◌∷◌, ◌++◌, Ok, refl, subst, arith}
use Rattle.std.specs.List.{AllByRecursion}
use Rattle.std.specs.Fmt.{decimal}
use Rattle.brep_tokens.specs.Forms.{flag_text}
use Rattle.brep_tokens.specs.Laws.{FormsAreExact}
use Rattle.brep_tokens.specs.declared.text.Token.{Token}
use Rattle.entry_readers.specs.Begins.{Begins, FieldsAreExact, IsDecimal, IsRanged, IsSmall, spell_numbers}
use Rattle.lists.specs.Results.{◌>>=◌}
use Rattle.entry_readers.specs.Reading.{decimals_at, flag_at, number_at, numbers_at}
use Rattle.lists.proofs.Results.{bind_ok, ok_is}
use Rattle.mesh_tables.specs.Counts.{mesh_size}
use Rattle.mesh_tables.specs.Meshes.{corners_at, mesh_at, mesh_texts_at}
use Rattle.mesh_tables.specs.Sound.{IsNode, IsSoundMesh}
use Rattle.mesh_tables.specs.Spelling.{spell_mesh}
use Rattle.mesh_tables.specs.declared.entries.Mesh.{Mesh}
use Rattle.mesh_tables.proofs.Forms.{all_append, all_map, flag_form, number_form, numbers_form}

node_ranged : (nodes : ℕ) → IsSmall nodes → (n : ℕ) → IsNode nodes n → IsRanged 1 nodes n
node_ranged nodes small n is = record { small = omega (arith, small, is.1); from = is.0; to = is.1 }

module _ (fields : FieldsAreExact) where
  pub mesh_takes : (ts rest : List Token) (m : Mesh) → mesh_at ts ≡ Ok (m, rest) → Begins ts (spell_mesh m) rest
      × IsSoundMesh m
  mesh_takes ts rest m e =
      let n = bind_ok (number_at ts) (λ nodes. number_at nodes.1 >>= λ triangles. flag_at triangles.1
      >>= λ uv. mesh_texts_at nodes.0 triangles.0 uv.0 uv.1) (m, rest) e in
      let k = bind_ok (number_at n.0.1) (λ triangles. flag_at triangles.1
      >>= λ uv. mesh_texts_at n.0.0 triangles.0 uv.0 uv.1) (m, rest) n.2 in
      let f = bind_ok (flag_at k.0.1) (λ uv. mesh_texts_at n.0.0 k.0.0 uv.0 uv.1) (m, rest) k.2 in
      let x = bind_ok (decimals_at (mesh_size n.0.0 f.0.0) f.0.1)
      (λ texts. corners_at n.0.0 k.0.0 f.0.0 texts.0 texts.1) (m, rest) f.2 in
      let c = bind_ok (numbers_at 1 n.0.0 (3 * k.0.0) x.0.1)
      (λ corners. Ok (
        record { nodes = n.0.0; triangles = k.0.0; uv = f.0.0; texts = x.0.0; corners = corners.0 },
        corners.1,
      )) (m, rest) x.2 in
      let same = ok_is (record { nodes = n.0.0; triangles = k.0.0; uv = f.0.0; texts = x.0.0; corners = c.0.0 }, c.0.1)
      (m, rest) c.2 in
      let one = fields.number.takes ts n.0.1 n.0.0 n.1 in
      let two = fields.number.takes n.0.1 k.0.1 k.0.0 k.1 in
      let three = (fields.flag.takes k.0.1 f.0.1 f.0.0 f.1).0 in
      let four = (fields.decimals (mesh_size n.0.0 f.0.0)).takes f.0.1 x.0.1 x.0.0 x.1 in
      let five = (fields.numbers 1 n.0.0 (3 * k.0.0)).takes x.0.1 c.0.1 c.0.0 c.1 in
      let body = x.0.0 ++ spell_numbers c.0.0 in
      let begins : Begins ts (decimal n.0.0 ∷ decimal k.0.0 ∷ flag_text f.0.0 ∷ body) c.0.1 =
      fields.joined ts (decimal n.0.0 ∷ []) n.0.1 (decimal k.0.0 ∷ flag_text f.0.0 ∷ body) c.0.1 one.0
      (fields.joined n.0.1 (decimal k.0.0 ∷ []) k.0.1 (flag_text f.0.0 ∷ body) c.0.1 two.0
      (fields.joined k.0.1 (flag_text f.0.0 ∷ []) f.0.1 body c.0.1 three
      (fields.joined f.0.1 x.0.0 x.0.1 (spell_numbers c.0.0) c.0.1 four.0 five.0))) in
      subst (λ (q : Mesh × List Token). Begins ts (spell_mesh q.0) q.1 × IsSoundMesh q.0) same (
        begins,
        record {
          shape = (four.1.0, five.1.0);
          nodes = one.1;
          triangles = two.1;
          texts = four.1.1;
          corners = all_map (IsRanged 1 n.0.0) (IsNode n.0.0) (λ corner is. (is.from, is.to)) c.0.0 five.1.1;
        },
      )

  pub mesh_again : (ts rest : List Token) (m : Mesh) → Begins ts (spell_mesh m) rest → IsSoundMesh m
      → mesh_at ts ≡ Ok (m, rest)
  mesh_again ts rest m b sound =
      let body = m.texts ++ spell_numbers m.corners in
      let n = fields.split ts (decimal m.nodes ∷ []) (decimal m.triangles ∷ flag_text m.uv ∷ body) rest b in
      let k = fields.split n.0 (decimal m.triangles ∷ []) (flag_text m.uv ∷ body) rest n.2 in
      let f = fields.split k.0 (flag_text m.uv ∷ []) body rest k.2 in
      let x = fields.split f.0 m.texts (spell_numbers m.corners) rest f.2 in
      rw (
        fields.number.again ts n.0 m.nodes n.1 sound.nodes,
        fields.number.again n.0 k.0 m.triangles k.1 sound.triangles,
        fields.flag.again k.0 f.0 m.uv f.1 tt,
        (fields.decimals (mesh_size m.nodes m.uv)).again f.0 x.0 m.texts x.1 (sound.shape.0, sound.texts),
        (fields.numbers 1 m.nodes (3 * m.triangles)).again x.0 rest m.corners x.2 (
          sound.shape.1,
          all_map (IsNode m.nodes) (IsRanged 1 m.nodes) (node_ranged m.nodes sound.nodes) m.corners
              sound.corners,
        ),
      ) refl

pub mesh_forms : FormsAreExact → (m : Mesh) → IsSoundMesh m → AllByRecursion IsDecimal (spell_mesh m)
mesh_forms forms m sound =
    let corners =
    all_map (IsNode m.nodes) IsSmall (λ n is. omega (arith, sound.nodes, is.1)) m.corners sound.corners in (
      number_form forms m.nodes sound.nodes,
      (
        number_form forms m.triangles sound.triangles,
        (
          flag_form forms m.uv,
          all_append IsDecimal m.texts (spell_numbers m.corners) sound.texts
              (numbers_form forms m.corners corners),
        ),
      ),
    )
