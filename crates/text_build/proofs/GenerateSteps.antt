-- What one level of depth of an item does.
use Rattle.std.proofs.Common.{◌≡◌, ℕ, suc, List, ap}
use Rattle.rtl_tree.specs.Symbols.{Terminal}
use Rattle.text_build.specs.ReadingExpr.{expression}
use Rattle.text_build.specs.ReadingGenerate.{simple, within, item}

pub item_simple : (d k : ℕ) (ts : List Terminal) → k ≡ 0 → item d k ts ≡ item d 0 ts
item_simple d k ts h = ap (λ n. item d n ts) h

pub item_deeper : (d k e : ℕ) (ts : List Terminal) → k ≡ suc e → item d k ts ≡ within (simple d) (expression e) (item d e) ts
unfolding item
item_deeper d k e ts h = ap (λ n. item d n ts) h
