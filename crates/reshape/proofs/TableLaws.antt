-- Tables of words that grow, and what reads them.
use Rattle.std.proofs.Common.{arith, ◌≡◌, ℕ, List, []}
use Rattle.location_words.specs.declared.pair.Pair.{Pair}
use Rattle.location_words.specs.Tables.{IsTable}
use Rattle.key_results.specs.Words.{GrowsTo, ReadsWords}

-- what reads a table reads the one that it grew from
pub reads-old : (old new : List (List Pair)) (word : ℕ → List Pair) → GrowsTo old new → ReadsWords word new →
    ReadsWords word old
reads-old old new word g r = record { words = r.words; held = λ i w e. r.held i w (g.kept i w e) }

pub reads-zero : (table : List (List Pair)) (word : ℕ → List Pair) → IsTable table → ReadsWords word table → word 0 ≡ []
reads-zero table word t r = r.held 0 [] t.identity

-- a table that has grown twice has grown
pub grows-on : (a b d : List (List Pair)) → GrowsTo a b → GrowsTo b d → GrowsTo a d
grows-on a b d g h = record {
  grows = (let p = g.grows in let q = h.grows in omega (arith, p, q));
  kept = λ i w e. h.kept i w (g.kept i w e);
  table = h.table;
}

pub grows-none : (a : List (List Pair)) → IsTable a → GrowsTo a a
grows-none a t = record { grows = omega arith; kept = λ i w e. e; table = t }
