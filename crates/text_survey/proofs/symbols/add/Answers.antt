use Rattle.std.proofs.Common.{◌∙◌, [], ◌∷◌, ◌++◌, sym, ap, map}
use Rattle.std.proofs.lemmas.List.{map-append}
use Rattle.rtl_tree.specs.Symbols.{terminal, sight, pragma_of}
use Rattle.text_survey.specs.Terminals.{joined}
use Rattle.text_survey.proofs.Pragmas.{joined_note, joined_push, no_pragma}
use Rattle.text_survey.proofs.symbols.add.Goals as goal

pub returns-in_ok-push-in-Pragma : goal.returns-in_ok-push-in-Pragma
returns-in_ok-push-in-Pragma c after =
    let front = map terminal c.pop.new.self.items in
    let s = sight c.args.text.now c.args.token.now (pragma_of c.args.token.now.kind) after in
    ap (λ xs. joined (map terminal xs) after) c.in_ok-push-in-Pragma.ensures.items
    ∙ ap (λ xs. joined xs after) (map-append terminal c.pop.new.self.items (c.marked.result ∷ []))
    ∙ ap (λ t. joined (front ++ t ∷ []) after) c.marked.ensures
    ∙ joined_note front (terminal c.in-Some.last) c.args.text.now c.args.token.now c.in-Pragma.pragma after (ap pragma_of c.in-Pragma.is)
    ∙ ap (λ xs. joined xs s) (sym (map-append terminal c.pop.new.self.items (c.in-Some.last ∷ [])))
    ∙ ap (λ xs. joined (map terminal xs) s) (sym c.in-Some.ensures.items)

pub returns-in_ok-push-in_default : goal.returns-in_ok-push-in_default
returns-in_ok-push-in_default c after =
    ap (λ xs. joined (map terminal xs) after) c.in_ok-push-in_default.ensures.items
    ∙ ap (λ xs. joined xs after) (map-append terminal c.args.terminals.now.items (c.terminal.result ∷ []))
    ∙ ap (λ t. joined (map terminal c.args.terminals.now.items ++ t ∷ []) after) c.terminal.ensures
    ∙ joined_push (map terminal c.args.terminals.now.items) c.args.text.now c.args.token.now after (no_pragma c.args.token.now.kind c.in_default.not-Pragma)
