-- Rewriting as the least relation with its cases.
use Rattle.std.specs.Prelude.{◌≡◌, true, false, None, Some, List, [], ◌∷◌, ◌++◌}
use Rattle.expansion_laws.specs.Trees.{Use, uses}
use Rattle.expansion_laws.specs.Contexts.{Context, inside}
use Rattle.expansion_laws.specs.Requests.{Request, remove, replace, match_of}
use Rattle.expansion_laws.specs.Steps.{Step, is_entered, onward, new_use}
use Rattle.expansion_laws.specs.Rewriting.{rebuilt, is_pruned}

mutual
  -- A use in a context becomes these results. Without a match it stays as it is where its tree isn't entered; else it
  -- stays over the results of its tree's uses in its own context, and where it is pruned it goes. A match that removes
  -- gives none. After a match that replaces come the results, in the same context, of the uses that go on.
  pub data Derives (s : Step) : Context → Use → List Use → Type 0 where
    stopped : {c : Context} {u : Use} →
        match_of s.requests u.tree (inside c u) ≡ None →
        is_entered s u.tree ≡ false →
        Derives s c u (u ∷ [])
    unmatched : {c : Context} {u : Use} {below : List Use} →
        match_of s.requests u.tree (inside c u) ≡ None →
        is_entered s u.tree ≡ true →
        DeriveAll s (inside c u) (uses u.tree) below →
        is_pruned s u.tree below ≡ false →
        Derives s c u (rebuilt u below ∷ [])
    pruned : {c : Context} {u : Use} {below : List Use} →
        match_of s.requests u.tree (inside c u) ≡ None →
        is_entered s u.tree ≡ true →
        DeriveAll s (inside c u) (uses u.tree) below →
        is_pruned s u.tree below ≡ true →
        Derives s c u []
    removed : {c : Context} {u : Use} (r : Request) →
        match_of s.requests u.tree (inside c u) ≡ Some r →
        r.act ≡ remove →
        Derives s c u []
    replaced : {c : Context} {u : Use} {results : List Use} (r : Request) (by : Use) →
        match_of s.requests u.tree (inside c u) ≡ Some r →
        r.act ≡ replace by →
        DeriveAll s c (onward s u.tree (new_use c u r.place by)) results →
        Derives s c u results

  -- uses in a context become these results, joined in order
  pub data DeriveAll (s : Step) : Context → List Use → List Use → Type 0 where
    none : {c : Context} → DeriveAll s c [] []
    next : {c : Context} {u : Use} {us first rest : List Use} →
        Derives s c u first →
        DeriveAll s c us rest →
        DeriveAll s c (u ∷ us) (first ++ rest)
