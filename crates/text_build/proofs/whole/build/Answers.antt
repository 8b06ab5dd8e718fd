use Rattle.std.proofs.Common.{map, sym, subst, ◌∙◌}
use Rattle.rtl_tree.specs.Symbols.{terminal}
use Rattle.text_grammar.specs.GrammarModule.{AreSpelled}
use Rattle.text_grammar.specs.declared.nesting.TheConstants.{MAX_NESTING}
use Rattle.text_build.proofs.Laws.Modules.{circuits_again, all_below, built, none_left}
use Rattle.text_build.specs.Built.{IsBuilt}
use Rattle.text_build.specs.ReadingModule.{circuits}
use Rattle.text_build.specs.Told.{told}
use Rattle.text_build.proofs.whole.build.Goals as goal

pub returns-in-Err-clause-built : goal.returns-in-Err-clause-built
returns-in-Err-clause-built c cs w k =
    let ts = map terminal c.args.tokens.now in
    let all = told c.new.result in
    let again = circuits_again MAX_NESTING all ts cs (subst (λ regions. AreSpelled regions ts cs) (sym c.new.ensures) w) (all_below MAX_NESTING cs k) in
    subst (λ r. IsBuilt cs r) c.in-Err.is (built cs (circuits MAX_NESTING all ts) c.modules.result _ again c.modules.ensures)

pub returns-then-is_more-clause-built : goal.returns-then-is_more-clause-built
returns-then-is_more-clause-built c cs w k =
    let ts = map terminal c.args.tokens.now in
    let all = told c.new.result in
    let again = circuits_again MAX_NESTING all ts cs (subst (λ regions. AreSpelled regions ts cs) (sym c.new.ensures) w) (all_below MAX_NESTING cs k) in
    none_left cs (circuits MAX_NESTING all ts) c.modules.result c.in-Ok.modules _ again c.modules.ensures c.in-Ok.is (sym c.is_more.ensures ∙ c.if-is_more.true)

pub returns-else-is_more-clause-built : goal.returns-else-is_more-clause-built
returns-else-is_more-clause-built c cs w k =
    let ts = map terminal c.args.tokens.now in
    let all = told c.new.result in
    let again = circuits_again MAX_NESTING all ts cs (subst (λ regions. AreSpelled regions ts cs) (sym c.new.ensures) w) (all_below MAX_NESTING cs k) in
    subst (λ r. IsBuilt cs r) c.in-Ok.is (built cs (circuits MAX_NESTING all ts) c.modules.result _ again c.modules.ensures)
