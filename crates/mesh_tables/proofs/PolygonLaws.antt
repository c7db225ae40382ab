-- A polygon in space is read exactly as it is spelled.
use Rattle.std.proofs.Common.{◌≡◌, List, [], ◌∷◌, Ok, refl, subst}
use Rattle.std.specs.List.{AllByRecursion}
use Rattle.std.specs.Fmt.{decimal}
use Rattle.brep_tokens.specs.Forms.{flag_text}
use Rattle.brep_tokens.specs.Laws.{FormsAreExact}
use Rattle.brep_tokens.specs.declared.text.Token.{Token}
use Rattle.entry_readers.specs.Begins.{Begins, FieldsAreExact, IsDecimal}
use Rattle.lists.specs.Results.{◌>>=◌}
use Rattle.entry_readers.specs.Reading.{decimals_at, flag_at, number_at}
use Rattle.lists.proofs.Results.{bind_ok, ok_is}
use Rattle.mesh_tables.specs.Counts.{polygon_size}
use Rattle.mesh_tables.specs.Meshes.{polygon_at, polygon_texts_at}
use Rattle.mesh_tables.specs.Sound.{IsSoundPolygon}
use Rattle.mesh_tables.specs.Spelling.{spell_polygon}
use Rattle.mesh_tables.specs.declared.entries.Polygon3.{Polygon3}
use Rattle.mesh_tables.proofs.Forms.{flag_form, number_form}

module _ (fields : FieldsAreExact) where
  pub polygon_takes : (ts rest : List Token) (p : Polygon3) → polygon_at ts ≡ Ok (p, rest)
      → Begins ts (spell_polygon p) rest × IsSoundPolygon p
  polygon_takes ts rest p e =
      let n = bind_ok (number_at ts) (λ nodes. flag_at nodes.1 >>= λ params. polygon_texts_at nodes.0 params.0 params.1)
      (p, rest) e in
      let f = bind_ok (flag_at n.0.1) (λ params. polygon_texts_at n.0.0 params.0 params.1) (p, rest) n.2 in
      let x = bind_ok (decimals_at (polygon_size n.0.0 f.0.0) f.0.1)
      (λ texts. Ok (record { nodes = n.0.0; params = f.0.0; texts = texts.0 }, texts.1)) (p, rest) f.2 in
      let same = ok_is (record { nodes = n.0.0; params = f.0.0; texts = x.0.0 }, x.0.1) (p, rest) x.2 in
      let number = fields.number.takes ts n.0.1 n.0.0 n.1 in
      let flag = fields.flag.takes n.0.1 f.0.1 f.0.0 f.1 in
      let texts = (fields.decimals (polygon_size n.0.0 f.0.0)).takes f.0.1 x.0.1 x.0.0 x.1 in
      let begins : Begins ts (decimal n.0.0 ∷ flag_text f.0.0 ∷ x.0.0) x.0.1 =
      fields.joined ts (decimal n.0.0 ∷ []) n.0.1 (flag_text f.0.0 ∷ x.0.0) x.0.1 number.0
      (fields.joined n.0.1 (flag_text f.0.0 ∷ []) f.0.1 x.0.0 x.0.1 flag.0 texts.0) in
      subst (λ (q : Polygon3 × List Token). Begins ts (spell_polygon q.0) q.1 × IsSoundPolygon q.0) same
      (begins, record { shape = texts.1.0; nodes = number.1; texts = texts.1.1 })

  pub polygon_again : (ts rest : List Token) (p : Polygon3) → Begins ts (spell_polygon p) rest → IsSoundPolygon p
      → polygon_at ts ≡ Ok (p, rest)
  polygon_again ts rest p b sound =
      let n = fields.split ts (decimal p.nodes ∷ []) (flag_text p.params ∷ p.texts) rest b in
      let f = fields.split n.0 (flag_text p.params ∷ []) p.texts rest n.2 in
      rw (
        fields.number.again ts n.0 p.nodes n.1 sound.nodes,
        fields.flag.again n.0 f.0 p.params f.1 tt,
        (fields.decimals (polygon_size p.nodes p.params)).again f.0 rest p.texts f.2 (sound.shape, sound.texts),
      ) refl

pub polygon_forms : FormsAreExact → (p : Polygon3) → IsSoundPolygon p → AllByRecursion IsDecimal (spell_polygon p)
polygon_forms forms p sound = (number_form forms p.nodes sound.nodes, (flag_form forms p.params, sound.texts))
