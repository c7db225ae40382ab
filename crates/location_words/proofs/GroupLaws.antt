-- Words are a group.
use Rattle.std.proofs.Common.{◌≡◌, refl, sym, ◌∙◌, ap, subst, eqb-true}
use Rattle.std.specs.Prelude.{◌==◌, pos, ◌+ℤ◌, List, [], ◌∷◌, ◌++◌, reverse}
use Rattle.std.proofs.lemmas.List.{reverse-reverse}
use Rattle.lists.proofs.Cases.{by_test}
use Rattle.location_words.specs.declared.pair.Pair.{Pair}
use Rattle.location_words.specs.Pairs.{pair, is_zero, norm}
use Rattle.location_words.specs.Laws.{Shortens, adds, drops, Chain, stays, goes, IsEnd}
use Rattle.location_words.proofs.WordLaws.{push-push, push-zero, act, act-append, IsReduced, IsApart}
use Rattle.location_words.proofs.WordLaws.{IsReduced-act, norm-act, is_zero-true, word-of-reduced, reduced-reverse}

pub norm-shortens : (l m : List Pair) → Shortens l m → norm l ≡ norm m
norm-shortens l m (adds before behind d p q) =
    let r = IsReduced-act [] before tt in
    norm-act (before ++ (pair d p ∷ pair d q ∷ behind)) ∙
    ap reverse (act-append [] before (pair d p ∷ pair d q ∷ behind) ∙
    ap (λ x. act x behind) (push-push d q p (act [] before) r) ∙
    sym (act-append [] before (pair d (p +ℤ q) ∷ behind))) ∙
    sym (norm-act (before ++ (pair d (p +ℤ q) ∷ behind)))
norm-shortens l m (drops before behind d) =
    let r = IsReduced-act [] before tt in
    norm-act (before ++ (pair d (pos 0) ∷ behind)) ∙
    ap reverse (act-append [] before (pair d (pos 0) ∷ behind) ∙
    ap (λ x. act x behind) (push-zero d (act [] before) r) ∙ sym (act-append [] before behind)) ∙
    sym (norm-act (before ++ behind))

pub norm-chain : {l m : List Pair} → Chain l m → norm l ≡ norm m
norm-chain stays = refl
norm-chain {l} (goes m s c) = norm-shortens l m s ∙ norm-chain c

pub later : (q : Pair) (l m : List Pair) → Shortens l m → Shortens (q ∷ l) (q ∷ m)
later q l m (adds before behind d p r) = adds (q ∷ before) behind d p r
later q l m (drops before behind d) = drops (q ∷ before) behind d

apart-at-end : (q : Pair) (w : List Pair) → IsEnd (q ∷ w) → IsApart q.datum w
apart-at-end q [] e = tt
apart-at-end q (r ∷ w) e =
    by_test (r.datum == q.datum)
    (λ f. let same = eqb-true r.datum q.datum f in
    absurd (e (pair q.datum (q.power +ℤ r.power) ∷ w)
    (subst (λ d. Shortens (q ∷ pair d r.power ∷ w) (pair q.datum (q.power +ℤ r.power) ∷ w)) (sym same)
    (adds [] w q.datum q.power r.power))))
    (λ f. f)

reduced-at-end : (l : List Pair) → IsEnd l → IsReduced l
reduced-at-end [] e = tt
reduced-at-end (q ∷ w) e = (
  by_test (is_zero q.power)
      (λ f. let z = is_zero-true q.power f in absurd
      (e w (subst (λ p. Shortens (pair q.datum p ∷ w) w) (sym z) (drops [] w q.datum))))
      (λ f. f),
  apart-at-end q w e,
  reduced-at-end w (λ m s. e (q ∷ m) (later q w m s)),
)

pub norm-end : (l : List Pair) → IsEnd l → norm l ≡ l
norm-end l e = rw reverse-reverse at (word-of-reduced (reverse l) (reduced-reverse l (reduced-at-end l e)))
