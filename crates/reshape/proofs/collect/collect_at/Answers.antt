-- One key more.
use Rattle.lists.proofs.Errors.{IfErr-on}
use Rattle.std.proofs.Common.{arith, ◌≡◌, ◌∙◌, sym, ap, subst, refl, length}
use Rattle.std.proofs.Common.{take, Some, Contains, slice_get, List, inl, inr}
use Rattle.std.proofs.lemmas.List.{take_all}
use Rattle.std.proofs.lemmas.List.Elements.{Contains-push_cases}
use Rattle.lists.proofs.Members.{Contains-none}
use Rattle.lists.proofs.Places.{Contains-at, take-at}
use Rattle.key_results.specs.declared.key.Key.{Key}
use Rattle.reshape.proofs.TableLaws.{grows-none, grows-on}
use Rattle.reshape.specs.Collecting.{keys_at, HasAsked}
use Rattle.reshape.proofs.StepLaws.{has-table, older, wider}
use Rattle.reshape.proofs.TurnLaws.{asked-more}
use Rattle.reshape.proofs.UseLaws.{wider-places}
use Rattle.reshape.proofs.collect.collect_at.Goals as goal

pub count_at-i-end-requires : goal.count_at-i-end-requires
count_at-i-end-requires c = let long = c.requires.found.long in let at = c.requires.at in omega (arith, long, at)

pub loop-i-init : goal.loop-i-init
loop-i-init c = record {
  found = c.requires.found;
  more = λ k m. m;
  later = λ q le. refl;
  grows = grows-none c.args.words.now c.len.ensures.table;
  has = λ root s word it k m. absurd (Contains-none k m);
  sound = λ root s word it r all. all;
}

pub key_at-key-requires-clause-at : goal.key_at-key-requires-clause-at
key_at-key-requires-clause-at c =
    let long = c.loop-i.invariant.found.long in let at = c.requires.at in omega (arith, long, at)

pub key_at-key-requires-clause-i : goal.key_at-key-requires-clause-i
key_at-key-requires-clause-i c =
    let same = ap (λ (l : List Key). length l) (c.loop-i.invariant.later c.args.at (omega arith)) in
    let count = c.count_at-i-end.ensures in
    let lt = c.loop-i-test.true in
    omega (arith, same, count, lt)

pub collect_from-requires-clause-table : goal.collect_from-requires-clause-table
collect_from-requires-clause-table c =
    has-table c.args.pool.now (length c.args.words.now) (length c.loop-i.words) c.args.plan.now
    c.loop-i.invariant.grows.grows c.requires.table

pub collect_from-requires-clause-places : goal.collect_from-requires-clause-places
collect_from-requires-clause-places c =
    wider-places c.args.pool.now (length c.args.words.now) (length c.loop-i.words) c.loop-i.invariant.grows.grows
    c.requires.places

pub collect_from-requires-clause-at : goal.collect_from-requires-clause-at
collect_from-requires-clause-at c =
    (c.loop-i.invariant.found.back c.args.at c.key_at-key.result
    (Contains-at (keys_at c.loop-i.found.at.items c.args.at) c.loop-i.i c.key_at-key.result c.key_at-key.ensures)).1

pub collect_from-requires-clause-key : goal.collect_from-requires-clause-key
collect_from-requires-clause-key c =
    (c.loop-i.invariant.found.back c.args.at c.key_at-key.result
    (Contains-at (keys_at c.loop-i.found.at.items c.args.at) c.loop-i.i c.key_at-key.result c.key_at-key.ensures)).0

pub collect_from-requires-clause-found : goal.collect_from-requires-clause-found
collect_from-requires-clause-found c = c.loop-i.invariant.found

pub returns-in_err-collect_from-clause-refused : goal.returns-in_err-collect_from-clause-refused
returns-in_err-collect_from-clause-refused c =
    let rows = c.args.pool.now in
    let n = length c.args.words.now in
    let plan = c.args.plan.now in
    let mid = c.loop-i.words in
    let new = c.collect_from.new.words in
    IfErr-on c.from_residual.result c.in_err-collect_from.field-0.0 _ c.from_residual.ensures.1 (λ root s word it r all.
    c.in_err-collect_from.ensures.refused root s word
    (wider rows n (length mid) root plan new s word c.loop-i.invariant.grows.grows it) r
    (c.loop-i.invariant.sound root s word (older rows n root plan mid new s word c.in_err-collect_from.ensures.grows it)
    r all))

pub returns-in_err-collect_from-clause-grows : goal.returns-in_err-collect_from-clause-grows
returns-in_err-collect_from-clause-grows c =
    grows-on c.args.words.now c.loop-i.words c.collect_from.new.words c.loop-i.invariant.grows
    c.in_err-collect_from.ensures.grows

pub loop-i-preserved : goal.loop-i-preserved
loop-i-preserved c =
    let rows = c.args.pool.now in
    let n = length c.args.words.now in
    let plan = c.args.plan.now in
    let mid = c.loop-i.words in
    let new = c.collect_from.new.words in
    let own : List Key = keys_at c.args.found.now.at.items c.args.at in
    let key = c.key_at-key.result in
    let there : slice_get own c.loop-i.i ≡ Some key =
    subst (λ (l : List Key). slice_get l c.loop-i.i ≡ Some key) (c.loop-i.invariant.later c.args.at (omega arith))
    c.key_at-key.ensures in
    record {
      found = c.in_ok-collect_from.ensures.found;
      more = λ k m. c.in_ok-collect_from.ensures.more k (c.loop-i.invariant.more k m);
      later = λ q le. c.in_ok-collect_from.ensures.later q le ∙ c.loop-i.invariant.later q le;
      grows = grows-on c.args.words.now mid new c.loop-i.invariant.grows c.in_ok-collect_from.ensures.grows;
      has = λ root s word it k m.
          elim (Contains-push_cases (take c.loop-i.i own) key k
          (subst (λ (l : List Key). Contains l k) (take-at own c.loop-i.i key there) m)) [
            | inl a ↦ asked-more rows s word c.loop-i.found.keys.keys c.collect_from.new.found.keys.keys k
                c.in_ok-collect_from.ensures.more
                (c.loop-i.invariant.has root s word (older rows n root plan mid new s word
                c.in_ok-collect_from.ensures.grows it) k a)
            | inr e ↦ subst (HasAsked rows s word c.collect_from.new.found.keys.keys) e
                (c.in_ok-collect_from.ensures.has root s word
                (wider rows n (length mid) root plan new s word c.loop-i.invariant.grows.grows it))
          ];
      sound = λ root s word it r all.
          c.in_ok-collect_from.ensures.sound root s word
          (wider rows n (length mid) root plan new s word c.loop-i.invariant.grows.grows it) r
          (c.loop-i.invariant.sound root s word (older rows n root plan mid new s word
          c.in_ok-collect_from.ensures.grows it) r all);
    }

pub returns-clause-found : goal.returns-clause-found
returns-clause-found c = c.loop-i.invariant.found

pub returns-clause-more : goal.returns-clause-more
returns-clause-more c = c.loop-i.invariant.more

pub returns-clause-later : goal.returns-clause-later
returns-clause-later c = c.loop-i.invariant.later

pub returns-clause-has : goal.returns-clause-has
returns-clause-has c = λ root s word it k m.
    let own : List Key = keys_at c.args.found.now.at.items c.args.at in
    let at-start : Contains own k = subst (λ (l : List Key). Contains l k)
    (c.loop-i.invariant.later c.args.at (omega arith)) m in
    let count = c.count_at-i-end.ensures in
    let done = c.loop-i-test.false in
    c.loop-i.invariant.has root s word it k
    (subst (λ (l : List Key). Contains l k) (sym (take_all c.loop-i.i own (omega (arith, count, done)))) at-start)

pub returns-clause-sound : goal.returns-clause-sound
returns-clause-sound c = c.loop-i.invariant.sound

pub returns-clause-grows : goal.returns-clause-grows
returns-clause-grows c = c.loop-i.invariant.grows
