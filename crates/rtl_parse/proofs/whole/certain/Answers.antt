use Rattle.std.proofs.Common.{map, ap, sym, ◌∙◌}
use Rattle.std.specs.List.{list_all}
use Rattle.rtl_tree.specs.Symbols.{terminal}
use Rattle.rtl_tree.specs.TreeModule.{written_circuit}
use Rattle.text_build.specs.Tests.{is_proper_circuit}
use Rattle.text_build.proofs.Certain.{certain}
use Rattle.rtl_parse.proofs.whole.certain.Goals as goal

pub returns-then-are_proper-clause-spelled : goal.returns-then-are_proper-clause-spelled
returns-then-are_proper-clause-spelled c =
    (certain c.args.regions.now (map terminal c.args.tokens.now) (map written_circuit c.in-Ok.modules.items)
    (sym c.is_ordinary.ensures ∙ c.if-not-is_ordinary.false) c.in-Ok.ensures.read
    (ap (λ all. list_all is_proper_circuit (map written_circuit all)) (sym c.deref.ensures.value) ∙ sym c.are_proper.ensures ∙ c.if-are_proper.true)).0

pub returns-then-are_proper-clause-shallow : goal.returns-then-are_proper-clause-shallow
returns-then-are_proper-clause-shallow c =
    (certain c.args.regions.now (map terminal c.args.tokens.now) (map written_circuit c.in-Ok.modules.items)
    (sym c.is_ordinary.ensures ∙ c.if-not-is_ordinary.false) c.in-Ok.ensures.read
    (ap (λ all. list_all is_proper_circuit (map written_circuit all)) (sym c.deref.ensures.value) ∙ sym c.are_proper.ensures ∙ c.if-are_proper.true)).1
