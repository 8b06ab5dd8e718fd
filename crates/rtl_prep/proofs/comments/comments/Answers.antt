use Rattle.std.proofs.Common.{Ok, ◌++◌, ◌∙◌, sym, ap}
use Rattle.std.proofs.lemmas.List.{append-nil}
use Rattle.rtl_prep.specs.Comments.{start}
use Rattle.rtl_prep.proofs.Noted.{no_comments}
use Rattle.rtl_prep.proofs.comments.comments.Goals as goal

pub returns : goal.returns
returns c =
    ap (λ xs. Ok (c.args.dropped.items ++ xs))
    (no_comments c.args.text.now start c.args.tokens.now (sym c.has_pragmas.ensures ∙ c.if-has_pragmas.false))
    ∙ ap Ok (append-nil c.args.dropped.items)
