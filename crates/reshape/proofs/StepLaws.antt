-- What holds of each step that a plan carries out, and that there is one.
use Rattle.std.proofs.Common.{◌≡◌, ◌≤◌, ◌<◌, ◌∙◌, ℕ, zero, suc, Bool, false, List, [], ◌∷◌, length}
use Rattle.std.proofs.Common.{arith, refl, sym, ap, subst, slice_get, Option, Some, None, true≢false, eq-eqb, eqb-true}
use Rattle.std.specs.Prelude.{nat_eq, unwrap_or, if◌then◌else◌}
use Rattle.std.proofs.lemmas.List.Elements.{All-weaker}
use Rattle.lists.proofs.Cases.{by_test}
use Rattle.lists.proofs.Entries.{All-place}
use Rattle.lists.proofs.Places.{at_place}
use Rattle.orientation.specs.declared.kind.Kind.{Kind}
use Rattle.orientation.specs.declared.kind.Kind.TheVariants.{Co}
use Rattle.location_words.specs.declared.pair.Pair.{Pair}
use Rattle.location_words.specs.declared.table.WordId.{WordId}
use Rattle.location_words.specs.Pairs.{IsWord, IsHeldWord}
use Rattle.location_words.specs.Tables.{IsTable}
use Rattle.expansion_laws.specs.Steps.{Step}
use Rattle.shape_pool.specs.Rows.{Row, kind_at, origin_at, tree_at, HasPlaces, HaveKinds}
use Rattle.shape_pool.specs.Laws.{IsSound, TellsBelow, word_in}
use Rattle.requests.specs.declared.request.Request.{Request}
use Rattle.requests.specs.declared.request.Act.{Act}
use Rattle.requests.specs.declared.request.Act.TheVariants.{Remove, Replace}
use Rattle.requests.specs.Plans.{StepPlan, ArePlanned, IsWithinRank}
use Rattle.requests.specs.Numbered.{Table}
use Rattle.requests.specs.Readings.{IsPlaceBelow, IsReading, step_by}
use Rattle.key_results.specs.Words.{GrowsTo, ReadsWords}
use Rattle.reshape.proofs.TableLaws.{reads-old, reads-zero}
use Rattle.reshape.specs.Readings.{ActIsPlaced, IsPlaced, IsCarriedOut, IsStepOf, HasTable}

-- ---- the step in an earlier table of words, and among more words
pub older : (rows : List Row) (n root : ℕ) (plan : StepPlan) (old new : List (List Pair)) (s : Step)
    (word : ℕ → List Pair) →
    GrowsTo old new → IsStepOf rows n root plan new s word → IsStepOf rows n root plan old s word
older rows n root plan old new s word g it = record {
  given = it.given;
  kind = it.kind;
  carried = it.carried;
  reads = record { kinds = it.reads.kinds; told = reads-old old new word g it.reads.told };
  is = it.is;
}

place-more : (n m : ℕ) → n ≤ m → (o : Option WordId) → IsPlaceBelow n o → IsPlaceBelow m o
place-more n m le None h = tt
place-more n m le (Some w) h = omega (arith, le, h)

act-more : (n m : ℕ) → n ≤ m → (a : Act) → ActIsPlaced n a → ActIsPlaced m a
act-more n m le Remove h = tt
act-more n m le (Replace by) h = omega (arith, le, h)

carried-more : (rows : List Row) (n m root : ℕ) (plan : StepPlan) (t : Table) → n ≤ m →
    IsCarriedOut rows n root plan t →
    IsCarriedOut rows m root plan t
carried-more rows n m root plan t le h = record {
  planned = h.planned;
  held = h.held;
  placed =
      All-weaker (IsPlaced n) (IsPlaced m) (λ r p. (place-more n m le r.place p.0, act-more n m le r.act p.1))
      t.requests h.placed;
  fit = h.fit;
}

pub wider : (rows : List Row) (n m root : ℕ) (plan : StepPlan) (table : List (List Pair)) (s : Step)
    (word : ℕ → List Pair) →
    n ≤ m → IsStepOf rows n root plan table s word → IsStepOf rows m root plan table s word
wider rows n m root plan table s word le it = record {
  given = it.given;
  kind = it.kind;
  carried = carried-more rows n m root plan it.given le it.carried;
  reads = it.reads;
  is = it.is;
}

-- both at once: what a callee tells of its words is told of the caller's
pub before : (rows : List Row) (n m root : ℕ) (plan : StepPlan) (old new : List (List Pair)) (s : Step)
    (word : ℕ → List Pair) →
    n ≤ m → GrowsTo old new → IsStepOf rows n root plan new s word → IsStepOf rows m root plan old s word
before rows n m root plan old new s word le g it =
    wider rows n m root plan old s word le (older rows n root plan old new s word g it)

pub has-table : (rows : List Row) (n m : ℕ) (plan : StepPlan) → n ≤ m → HasTable rows n plan → HasTable rows m plan
has-table rows n m plan le h = (h.0, h.1, carried-more rows n m h.0 plan h.1 le h.2)

-- ---- what holds of the step
pub tells-words : (table : List (List Pair)) (word : ℕ → List Pair) (n : ℕ) → IsTable table → ReadsWords word table →
    n ≤ length table →
    TellsBelow n word
tells-words table word n t r le a b ha hb e =
    let x = at_place table a (omega (arith, ha, le)) in
    let y = at_place table b (omega (arith, hb, le)) in
    let same : x.0 ≡ y.0 = sym (r.held a x.0 x.1) ∙ e ∙ r.held b y.0 y.1 in
    t.distinct a b x.0 x.1 (y.1 ∙ ap Some (sym same))

module _ (rows : List Row) (n root : ℕ) (plan : StepPlan) (table : List (List Pair)) (s : Step) (word : ℕ → List Pair)
    (it : IsStepOf rows n root plan table s word) (is_table : IsTable table) (within : n ≤ length table)
    (places : HasPlaces rows n) where
  pub tells : TellsBelow n word
  tells = tells-words table word n is_table it.reads.told within

  pub zero-word : word 0 ≡ []
  zero-word = reads-zero table word is_table it.reads.told

  pub reading : IsReading rows it.given.requests it.kind word n
  reading = record {
    kinds = it.reads.kinds;
    placed = places;
    told = tells;
    places =
        All-weaker (IsPlaced n) (λ (r : Request). IsPlaceBelow n r.place) (λ r p. p.0) it.given.requests
        it.carried.placed;
  }

  pub planned : ArePlanned plan.nodes root s (tree_at word rows)
  planned =
      subst (λ z. ArePlanned plan.nodes root z (tree_at word rows)) (sym it.is)
      (it.carried.planned.planned it.kind word n reading)

  pub ranked : IsWithinRank root s (tree_at word rows)
  ranked =
      subst (λ z. IsWithinRank root z (tree_at word rows)) (sym it.is)
      (it.carried.planned.within it.kind word n reading)

  pub rule-is : plan.rule ≡ s.rule
  rule-is = it.carried.planned.rule_is ∙ sym (ap (λ (z : Step). z.rule) it.is)

  pub kinds-are : s.kind_of_origin ≡ it.kind
  kinds-are = ap (λ (z : Step). z.kind_of_origin) it.is

-- ---- there is a step
abbrev first_kind : List Row → ℕ → Kind
first_kind [] o = Co
first_kind (r ∷ rows) o = if nat_eq r.origin o then r.kind else first_kind rows o

abbrev HasFirst : List Row → ℕ → Type 0
HasFirst rows o = (j : ℕ) × (j < length rows) × (origin_at rows j ≡ o) × (first_kind rows o ≡ kind_at rows j)

kind-later : (r : Row) (rows : List Row) (o i : ℕ) → i < length (r ∷ rows) → origin_at (r ∷ rows) i ≡ o →
    nat_eq r.origin o ≡ false →
    ((j : ℕ) → j < length rows → origin_at rows j ≡ o → HasFirst rows o) → HasFirst (r ∷ rows) o
kind-later r rows o zero h e f rest = absurd (true≢false (sym (eq-eqb r.origin o e) ∙ f))
kind-later r rows o (suc i) h e f rest =
    let g = rest i (omega (arith, h)) e in (
      suc g.0,
      (let lt = g.1 in omega (arith, lt)),
      g.2,
      ap (λ (b : Bool). if b then r.kind else first_kind rows o) f ∙ g.3,
    )

first-kind : (rows : List Row) (o i : ℕ) → i < length rows → origin_at rows i ≡ o → HasFirst rows o
first-kind [] o i h e = absurd (omega (arith, h))
first-kind (r ∷ rows) o i h e = by_test (nat_eq r.origin o)
    (λ t. (0, omega arith, eqb-true r.origin o t, ap (λ (b : Bool). if b then r.kind else first_kind rows o) t))
    (λ f. kind-later r rows o i h e f (λ j lt m. first-kind rows o j lt m))

have-kinds : (rows : List Row) → IsSound rows → HaveKinds rows (first_kind rows)
have-kinds rows sound i h =
    let f = first-kind rows (origin_at rows i) i h refl in f.3 ∙ sound.kinds_of_trees.one_kind f.0 i f.1 h f.2

word-or-none : (table : List (List Pair)) → IsTable table → (i : ℕ) (o : Option (List Pair)) → slice_get table i ≡ o →
    IsWord (unwrap_or o [])
word-or-none table t i None e = refl
word-or-none table t i (Some w) e = let h : IsHeldWord w = All-place IsHeldWord table i w t.words e in h.is_word

pub a-root-step : (rows : List Row) (n root : ℕ) (plan : StepPlan) (table : List (List Pair)) → IsSound rows →
    IsTable table → (given : Table) →
    IsCarriedOut rows n root plan given → (s : Step) × (word : ℕ → List Pair) × IsStepOf rows n root plan table s word
a-root-step rows n root plan table sound t given h = (
  step_by (word_in table) rows (first_kind rows) given,
  word_in table,
  record {
    given = given;
    kind = first_kind rows;
    carried = h;
    reads = record {
      kinds = have-kinds rows sound;
      told = record {
        words = λ i. word-or-none table t i (slice_get table i) refl;
        held = λ i w e. ap (λ o. unwrap_or o []) e;
      };
    };
    is = refl;
  },
)

pub a-step : (rows : List Row) (n : ℕ) (plan : StepPlan) (table : List (List Pair)) → IsSound rows → IsTable table →
    HasTable rows n plan →
    (root : ℕ) × (s : Step) × (word : ℕ → List Pair) × IsStepOf rows n root plan table s word
a-step rows n plan table sound t h =
    let r = a-root-step rows n h.0 plan table sound t h.1 h.2 in (h.0, r.0, r.1, r.2)
