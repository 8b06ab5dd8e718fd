use Rattle.std.proofs.Common.{◌≡◌, ◌∙◌, ◌+◌, ◌∷◌, [], ◌++◌, take, ap, sym, subst, arith, append-nil}
use Rattle.std.specs.List.{flat_map}
use Rattle.std.proofs.lemmas.List.{take_all, take_more}
use Rattle.std.proofs.lemmas.List.Concat.{flat_map-append}
use Rattle.check_gates.specs.check_chains.rtl_scan.Graph.{row}
use Rattle.check_gates.specs.check_chains.declared.chain.Guard.{Guard}
use Rattle.check_gates.specs.Tops.{AreMarkedAlso}
use Rattle.check_gates.proofs.Topped.{marked_more}
use Rattle.check_clocks.proofs.roles.mark_resets.Goals as goal

pub loop-guard-preserved : goal.loop-guard-preserved
loop-guard-preserved c =
    let guards = c.args.resets.now in
    let at = c.loop-guard.guard-index in
    let item = c.guard-item.result in
    let f = λ (guard : Guard). row c.args.tops.now guard.item.now.signal.0 in
    let more = take_more guards at item (omega arith) ∙ ap (λ y. take at guards ++ y ∷ []) (sym c.guard-item.is) in
    let next : flat_map f (take (at + 1) guards) ≡ flat_map f (take at guards) ++ f item =
    ap (flat_map f) more ∙ flat_map-append f (take at guards) (item ∷ []) ∙ ap (λ l. flat_map f (take at guards) ++ l) (append-nil (f item)) in
    subst (λ all. AreMarkedAlso all c.args.marks.now c.mark_all.new.marks) (sym next)
    (marked_more (flat_map f (take at guards)) (f item) c.args.marks.now c.loop-guard.marks c.mark_all.new.marks c.loop-guard.invariant
    (subst (λ all. AreMarkedAlso all c.loop-guard.marks c.mark_all.new.marks) c.row_at.ensures c.mark_all.ensures))

pub returns : goal.returns
returns c =
    let guards = c.args.resets.now in
    let f = λ (guard : Guard). row c.args.tops.now guard.item.now.signal.0 in
    subst (λ all. AreMarkedAlso (flat_map f all) c.args.marks.now c.loop-guard.marks) (take_all c.loop-guard.guard-index guards (omega arith)) c.loop-guard.invariant
