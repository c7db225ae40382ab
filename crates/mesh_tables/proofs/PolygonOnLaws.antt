-- A polygon on a mesh is read exactly as it is spelled.
use Rattle.std.proofs.Common.{◌≡◌, ℕ, zero, suc, inl, inr, Bool, List, [], ◌∷◌, ◌++◌, length, Result, Ok, Err, codes}
use Rattle.std.proofs.Common.{refl, sym, subst, ◌∙◌, arith}
use Rattle.std.specs.List.{AllByRecursion}
use Rattle.std.specs.Fmt.{decimal}
use Rattle.brep_tokens.specs.Forms.{flag_text}
use Rattle.brep_tokens.specs.Laws.{FormsAreExact}
use Rattle.brep_tokens.specs.declared.text.Token.{Token}
use Rattle.entry_readers.specs.Begins.{AreRanged, Begins, FieldsAreExact, IsDecimal, IsRanged, IsSmall, spell_numbers}
use Rattle.lists.specs.Results.{◌>>=◌}
use Rattle.entry_readers.specs.Reading.{Refusal, decimal_at, decimals_at, decimals_from, flag_at, number_at, numbers_at}
use Rattle.entry_readers.specs.Reading.{word_at}
use Rattle.lists.proofs.Results.{bind_ok, ok_is}
use Rattle.mesh_tables.specs.Counts.{param_count, polygon_on_size}
use Rattle.mesh_tables.specs.Laws.{IsDecimalOrP}
use Rattle.mesh_tables.specs.Meshes.{greatest, params_at, polygon_on_at, word_p_at}
use Rattle.mesh_tables.specs.Sound.{IsSoundPolygonOn}
use Rattle.mesh_tables.specs.Spelling.{spell_polygon_on, with_flag}
use Rattle.mesh_tables.specs.declared.entries.PolygonOnMesh.{PolygonOnMesh}
use Rattle.mesh_tables.proofs.Forms.{all_append, all_map, flag_form, number_form, numbers_form}

-- ---- decimals after a first one

after_both : {A B C : Type 0} (r : Result A Refusal) (f : A → Result C Refusal) (g : A → Result B Refusal) (k : B
    → Result C Refusal)
    → ((x : A) → f x ≡ (g x >>= k)) → (r >>= f) ≡ ((r >>= g) >>= k)
after_both (Ok x) f g k same = same x
after_both (Err e) f g k same = refl

after_first : (first : List ℕ) (texts : List (List ℕ)) (n : ℕ) (ts : List Token)
    → decimals_from (first ∷ texts) n ts ≡ (decimals_from texts n ts >>= λ x. Ok (first ∷ x.0, x.1))
after_first first texts zero ts = refl
after_first first texts (suc n) ts =
    after_both (decimal_at ts) (λ d. decimals_from (first ∷ (texts ++ d.0 ∷ [])) n d.1)
    (λ d. decimals_from (texts ++ d.0 ∷ []) n d.1) (λ x. Ok (first ∷ x.0, x.1))
    (λ d. after_first first (texts ++ d.0 ∷ []) n d.1)

-- ---- any number is in the range of all numbers

small_ranged : (n : ℕ) → IsSmall n → IsRanged 0 greatest n
small_ranged n small = record { small = small; from = omega arith; to = omega (arith, small) }

-- ---- reading

-- what follows the numbers of the nodes
record IsMarked (count : ℕ) (nodes : List ℕ) (ts rest : List Token) (p : PolygonOnMesh) : Type 0 where
  deflection : List ℕ
  others : List (List ℕ)
  same_nodes : p.nodes ≡ nodes
  same_texts : p.texts ≡ deflection ∷ others
  begins : Begins ts (codes "p" ∷ deflection ∷ flag_text p.params ∷ others) rest
  shape : length others ≡ param_count count p.params
  first : IsDecimal deflection
  each : AllByRecursion IsDecimal others

module _ (fields : FieldsAreExact) where
  -- the number of nodes, the nodes and what follows them are the whole
  whole : (count : ℕ) (nodes : List ℕ) (ts mid last rest : List Token) (p : PolygonOnMesh)
      → Begins ts (decimal count ∷ []) mid → IsSmall count → Begins mid (spell_numbers nodes) last
      → AreRanged 0 greatest count nodes
      → IsMarked count nodes last rest p → Begins ts (spell_polygon_on p) rest × IsSoundPolygonOn p
  whole count nodes ts mid last rest p one small two ranged is =
      let n : length p.nodes ≡ count = rw is.same_nodes ranged.0 in
      let marked = codes "p" ∷ is.deflection ∷ flag_text p.params ∷ is.others in
      let begins : Begins ts (decimal count ∷ (spell_numbers nodes ++ marked)) rest =
      fields.joined ts (decimal count ∷ []) mid (spell_numbers nodes ++ marked) rest one
      (fields.joined mid (spell_numbers nodes) last marked rest two is.begins) in
      let spelled : spell_polygon_on p ≡ decimal count ∷ (spell_numbers nodes ++ marked) =
      rw (n, is.same_nodes, is.same_texts) refl in
      let nodes_small = all_map (IsRanged 0 greatest) IsSmall (λ m in_range. in_range.small) nodes ranged.1 in (
        subst (λ (texts : List (List ℕ)). Begins ts texts rest) (sym spelled) begins,
        record {
          shape = rw (n, is.same_texts) (omega (arith, is.shape));
          count = rw n small;
          nodes = rw is.same_nodes nodes_small;
          texts = rw is.same_texts (is.first, is.each);
        },
      )

  marked_takes : (count : ℕ) (nodes : List ℕ) (ts rest : List Token) (p : PolygonOnMesh)
      → word_p_at count nodes ts ≡ Ok (p, rest) → IsMarked count nodes ts rest p
  marked_takes count nodes ts rest p e =
      let w = bind_ok (word_at (codes "p") ts) (λ word. decimal_at word.1 >>= λ deflection. params_at count nodes
      (deflection.0 ∷ []) deflection.1) (p, rest) e in
      let d = bind_ok (decimal_at w.0.1) (λ deflection. params_at count nodes (deflection.0 ∷ []) deflection.1)
      (p, rest) w.2 in
      let f = bind_ok (flag_at d.0.1) (λ params. decimals_from (d.0.0 ∷ []) (param_count count params.0) params.1
      >>= λ texts. Ok (record { nodes = nodes; params = params.0; texts = texts.0 }, texts.1)) (p, rest) d.2 in
      let x = bind_ok (decimals_from (d.0.0 ∷ []) (param_count count f.0.0) f.0.1)
      (λ texts. Ok (record { nodes = nodes; params = f.0.0; texts = texts.0 }, texts.1)) (p, rest) f.2 in
      let y = bind_ok (decimals_at (param_count count f.0.0) f.0.1) (λ others. Ok (d.0.0 ∷ others.0, others.1)) x.0
      (sym (after_first d.0.0 [] (param_count count f.0.0) f.0.1) ∙ x.1) in
      let joined = ok_is (d.0.0 ∷ y.0.0, y.0.1) x.0 y.2 in
      let same = ok_is (record { nodes = nodes; params = f.0.0; texts = x.0.0 }, x.0.1) (p, rest) x.2 in
      let word = fields.word (codes "p") in
      let one = (word.takes ts w.0.1 tt w.1).0 in
      let two = fields.texts.takes w.0.1 d.0.1 d.0.0 d.1 in
      let three = (fields.flag.takes d.0.1 f.0.1 f.0.0 f.1).0 in
      let four = (fields.decimals (param_count count f.0.0)).takes f.0.1 y.0.1 y.0.0 y.1 in
      let begins : Begins ts (codes "p" ∷ d.0.0 ∷ flag_text f.0.0 ∷ y.0.0) y.0.1 =
      fields.joined ts (codes "p" ∷ []) w.0.1 (d.0.0 ∷ flag_text f.0.0 ∷ y.0.0) y.0.1 one
      (fields.joined w.0.1 (d.0.0 ∷ []) d.0.1 (flag_text f.0.0 ∷ y.0.0) y.0.1 two.0
      (fields.joined d.0.1 (flag_text f.0.0 ∷ []) f.0.1 y.0.0 y.0.1 three four.0)) in
      let whole : IsMarked count nodes ts y.0.1 (record { nodes = nodes; params = f.0.0; texts = d.0.0 ∷ y.0.0 }) =
      record {
        deflection = d.0.0;
        others = y.0.0;
        same_nodes = refl;
        same_texts = refl;
        begins = begins;
        shape = four.1.0;
        first = two.1;
        each = four.1.1;
      } in
      subst (λ (q : PolygonOnMesh × List Token). IsMarked count nodes ts q.1 q.0) same
      (subst (λ (q : List (List ℕ) × List Token). IsMarked count nodes ts q.1
      (record { nodes = nodes; params = f.0.0; texts = q.0 })) joined whole)

  pub polygon_on_takes : (ts rest : List Token) (p : PolygonOnMesh) → polygon_on_at ts ≡ Ok (p, rest)
      → Begins ts (spell_polygon_on p) rest × IsSoundPolygonOn p
  polygon_on_takes ts rest p e =
      let c = bind_ok (number_at ts) (λ count. numbers_at 0 greatest count.0 count.1
      >>= λ nodes. word_p_at count.0 nodes.0 nodes.1) (p, rest) e in
      let k = bind_ok (numbers_at 0 greatest c.0.0 c.0.1) (λ nodes. word_p_at c.0.0 nodes.0 nodes.1) (p, rest) c.2 in
      let one = fields.number.takes ts c.0.1 c.0.0 c.1 in
      let two = (fields.numbers 0 greatest c.0.0).takes c.0.1 k.0.1 k.0.0 k.1 in
      whole c.0.0 k.0.0 ts c.0.1 k.0.1 rest p one.0 one.1 two.0 two.1 (marked_takes c.0.0 k.0.0 k.0.1 rest p k.2)

  marked_again : (nodes : List ℕ) (params : Bool) (texts : List (List ℕ)) (ts rest : List Token)
      → Begins ts (codes "p" ∷ with_flag params texts) rest → length texts ≡ polygon_on_size (length nodes) params
      → AllByRecursion IsDecimal texts
      → word_p_at (length nodes) nodes ts ≡ Ok (record { nodes = nodes; params = params; texts = texts }, rest)
  marked_again nodes params [] ts rest b shape all = absurd (omega (arith, shape))
  marked_again nodes params (d ∷ others) ts rest b shape all =
      let w = fields.split ts (codes "p" ∷ []) (d ∷ flag_text params ∷ others) rest b in
      let x = fields.split w.0 (d ∷ []) (flag_text params ∷ others) rest w.2 in
      let f = fields.split x.0 (flag_text params ∷ []) others rest x.2 in
      let word = fields.word (codes "p") in
      let n : length others ≡ param_count (length nodes) params = omega (arith, shape) in
      rw (
        word.again ts w.0 tt w.1 tt,
        fields.texts.again w.0 x.0 d x.1 all.0,
        fields.flag.again x.0 f.0 params f.1 tt,
        after_first d [] (param_count (length nodes) params) f.0,
        (fields.decimals (param_count (length nodes) params)).again f.0 rest others f.2 (n, all.1),
      ) refl

  pub polygon_on_again : (ts rest : List Token) (p : PolygonOnMesh) → Begins ts (spell_polygon_on p) rest
      → IsSoundPolygonOn p → polygon_on_at ts ≡ Ok (p, rest)
  polygon_on_again ts rest p b sound =
      let c = fields.split ts (decimal (length p.nodes) ∷ [])
      (spell_numbers p.nodes ++ codes "p" ∷ with_flag p.params p.texts) rest b in
      let k = fields.split c.0 (spell_numbers p.nodes) (codes "p" ∷ with_flag p.params p.texts) rest c.2 in
      rw (
        fields.number.again ts c.0 (length p.nodes) c.1 sound.count,
        (fields.numbers 0 greatest (length p.nodes)).again c.0 k.0 p.nodes k.1
            (refl, all_map IsSmall (IsRanged 0 greatest) small_ranged p.nodes sound.nodes),
      ) (marked_again p.nodes p.params p.texts k.0 rest k.2 sound.shape sound.texts)

-- ---- forms

as_decimals : (texts : List (List ℕ)) → AllByRecursion IsDecimal texts → AllByRecursion IsDecimalOrP texts
as_decimals texts all = all_map IsDecimal IsDecimalOrP (λ text is. inl is) texts all

flagged_forms : FormsAreExact → (params : Bool) (texts : List (List ℕ)) → AllByRecursion IsDecimal texts
    → AllByRecursion IsDecimalOrP (with_flag params texts)
flagged_forms forms params [] all = (inl (flag_form forms params), tt)
flagged_forms forms params (d ∷ others) all = (inl all.0, (inl (flag_form forms params), as_decimals others all.1))

pub polygon_on_forms : FormsAreExact → (p : PolygonOnMesh) → IsSoundPolygonOn p
    → AllByRecursion IsDecimalOrP (spell_polygon_on p)
polygon_on_forms forms p sound = (
  inl (number_form forms (length p.nodes) sound.count),
  all_append IsDecimalOrP (spell_numbers p.nodes) (codes "p" ∷ with_flag p.params p.texts)
      (as_decimals (spell_numbers p.nodes) (numbers_form forms p.nodes sound.nodes))
      (inr refl, flagged_forms forms p.params p.texts sound.texts),
)
