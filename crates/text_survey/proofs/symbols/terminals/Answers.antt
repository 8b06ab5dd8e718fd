use Rattle.std.proofs.Common.{◌≡◌, IfOk, Result, Ok, Err, Vec, Global, map}
use Rattle.rtl_tree.specs.declared.symbol.Terminal.{Terminal}
use Rattle.rtl_tree.specs.Symbols.{terminal, terminals}
use Rattle.text_survey.specs.Surveys.{AreNumbered}
use Rattle.text_survey.proofs.Numbers.{numbered_as}
use Rattle.text_survey.proofs.symbols.terminals.Goals as goal

implied : {A E : Type 0} (r : Result A E) (P Q : A → Type 0) → ((x : A) → P x → Q x) → IfOk r P → IfOk r Q
implied (Ok x) P Q f w = f x w
implied (Err e) P Q f w = w

pub returns-clause-numbered : goal.returns-clause-numbered
returns-clause-numbered c =
    implied c.gathered.result (λ (v : Vec Terminal Global). map terminal v.items ≡ terminals c.args.text.now c.args.tokens.now) (λ (v : Vec Terminal Global). AreNumbered (map terminal v.items))
    (λ v e. numbered_as (map terminal v.items) c.args.text.now c.args.tokens.now e) c.gathered.ensures
