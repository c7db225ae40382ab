-- The work that is left falls with each turn of the search.
use Rattle.std.proofs.Common.{◌≡◌, ◌<◌, ◌+◌, ◌-◌, refl, sym, ◌∙◌, ap, arith, set, slice_get}
use Rattle.std.specs.Prelude.{ℕ, zero, suc, Some, List, [], ◌∷◌, ◌++◌, length, reverse}
use Rattle.lists.proofs.Members.{reverse-push}
use Rattle.graph_walks.specs.declared.depth_first.Frame.{Frame}
use Rattle.graph_walks.specs.declared.depth_first.Mark.{Mark}
use Rattle.graph_walks.specs.declared.depth_first.Mark.TheVariants.{New, OnPath, Done}
use Rattle.graph_walks.specs.Graph.{ends_of}
use Rattle.graph_walks.specs.Search.{new_work, frames_work}

-- a node is entered
pub work_less : (marks : List Mark) (graph : List (List ℕ)) (y : ℕ) → slice_get marks y ≡ Some New →
    length marks ≡ length graph →
    new_work marks graph ≡ 2 + length (ends_of graph y) + new_work (set marks y OnPath) graph
work_less [] graph y e l = cc
work_less (m ∷ ms) [] y e l = absurd (omega (arith, l))
work_less (m ∷ ms) (v ∷ vs) zero e l = let same : m ≡ New = cc in rw same refl
work_less (New ∷ ms) (v ∷ vs) (suc y) e l = let ih = work_less ms vs y e (omega (arith, l)) in omega (arith, ih)
work_less (OnPath ∷ ms) (v ∷ vs) (suc y) e l = work_less ms vs y e (omega (arith, l))
work_less (Done ∷ ms) (v ∷ vs) (suc y) e l = work_less ms vs y e (omega (arith, l))

-- a write of another mark over a mark that isn't new
pub work_same : (marks : List Mark) (graph : List (List ℕ)) (y : ℕ) → slice_get marks y ≡ Some OnPath →
    new_work (set marks y Done) graph ≡ new_work marks graph
work_same [] graph y e = refl
work_same (m ∷ ms) [] y e = cut ms y m
  where
    cut : (ms : List Mark) (y : ℕ) (m : Mark) → new_work (set (m ∷ ms) y Done) [] ≡ 0
    cut ms zero m = refl
    cut ms (suc y) m = refl
work_same (m ∷ ms) (v ∷ vs) zero e = let same : m ≡ OnPath = cc in rw same refl
work_same (New ∷ ms) (v ∷ vs) (suc y) e = let ih = work_same ms vs y e in omega (arith, ih)
work_same (OnPath ∷ ms) (v ∷ vs) (suc y) e = work_same ms vs y e
work_same (Done ∷ ms) (v ∷ vs) (suc y) e = work_same ms vs y e

pushed-work : (graph : List (List ℕ)) (path longer : List Frame) (f : Frame) → longer ≡ path ++ f ∷ [] →
    frames_work graph (reverse longer) ≡ 1 + (length (ends_of graph f.node) - f.next) + frames_work graph (reverse path)
pushed-work graph path longer f e = ap (frames_work graph) (ap reverse e ∙ reverse-push path f)

-- ---- the turns; the last frame is taken off the path first
module _ (graph : List (List ℕ)) (marks : List Mark) (path rest : List Frame) (top : Frame)
    (e : path ≡ rest ++ top ∷ []) where
  pub work-leave : slice_get marks top.node ≡ Some OnPath →
      new_work (set marks top.node Done) graph + frames_work graph (reverse rest) < new_work marks graph +
      frames_work graph (reverse path)
  work-leave m = let same = work_same marks graph top.node m in let before = pushed-work graph rest path top e in
      omega (arith, same, before)

  pub work-pass : (path' : List Frame) → path' ≡ rest ++ record { node = top.node; next = top.next + 1 } ∷ [] →
      top.next < length (ends_of graph top.node) →
      new_work marks graph + frames_work graph (reverse path') < new_work marks graph + frames_work graph (reverse path)
  work-pass path' p lt =
      let before = pushed-work graph rest path top e in
      let after = pushed-work graph rest path' (record { node = top.node; next = top.next + 1 }) p in
      omega (arith, before, after, lt)

  pub work-enter : (path' longer : List Frame) (y : ℕ) → path' ≡ rest ++ top ∷ [] →
      longer ≡ path' ++ record { node = y; next = 0 } ∷ [] →
      slice_get marks y ≡ Some New → length marks ≡ length graph →
      new_work (set marks y OnPath) graph + frames_work graph (reverse longer) < new_work marks graph +
      frames_work graph (reverse path)
  work-enter path' longer y p q m long =
      let less = work_less marks graph y m long in
      let after = pushed-work graph path' longer (record { node = y; next = 0 }) q in
      let same : frames_work graph (reverse path') ≡ frames_work graph (reverse path) =
      ap (λ l. frames_work graph (reverse l)) (p ∙ sym e) in
      omega (arith, less, after, same)
