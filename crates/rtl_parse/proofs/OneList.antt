-- A text has one list of modules at most: it spells one list of written ones.
use Rattle.std.proofs.Common.{◌≡◌, List, map, sym, ap, ◌∙◌}
use Rattle.rtl_tree.specs.Prepared.{Ready}
use Rattle.rtl_tree.specs.TreeModule.{Circuit}
use Rattle.rtl_unroll.specs.Plain.{plain_circuit}
use Rattle.text_build.proofs.Laws.Modules.{spelled_once}
use Rattle.rtl_parse.specs.Parses.{tokens, IsParsed}

pub one_list : (ready : Ready) (a b : List Circuit) → IsParsed ready a → IsParsed ready b → a ≡ b
one_list ready a b x y =
    x.plain ∙ ap (map plain_circuit) (spelled_once ready.dropped (tokens ready) x.written y.written x.spelled y.spelled) ∙ sym y.plain
