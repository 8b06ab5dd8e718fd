use Rattle.std.proofs.Common.{String, refl, subst, sym}
use Rattle.std.proofs.lemmas.Iterator.{YieldsList, items_from_collect}
use Rattle.std.proofs.lemmas.Iterator.Adapters.{YieldsList-from_skip, YieldsList-from_vec}
use Rattle.std.specs.Vec.Iter.{into_iter_items, into_iter_steps}
use Rattle.std.specs.declared.alloc.Global.{Global}
use Rattle.std.specs.declared.vec.IntoIter.{IntoIter}
use Rattle.desk_command.proofs.line.words_of.Goals as goal

pub returns : goal.returns
returns c =
    items_from_collect c.collect.result c.collect.ensures.ran
    (YieldsList-from_skip 1
    (subst (λ (s : IntoIter (String Global) Global). YieldsList (into_iter_steps {X = String Global} {Z = Global}) (λ y. y) s (into_iter_items c.args.line)) (sym c.skip.ensures.source) (YieldsList-from_vec (into_iter_items c.args.line) refl c.args.line.rest.ok.0))
    c.skip.ensures.count)
