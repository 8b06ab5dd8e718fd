use Rattle.std.proofs.Common.{◌≡◌, ◌∙◌, ◌++◌, List, ap, map, subst, sym}
use Rattle.std.specs.Prelude.{option_to_list}
use Rattle.std.specs.List.{Contains}
use Rattle.std.proofs.lemmas.List.Elements.{Contains-append_left}
use Rattle.desk_memo.specs.Rulings.{Ruling, others_of, with_ruling}
use Rattle.desk_memo.specs.Shown.{absent_of, ruling_of}
use Rattle.desk_memo.proofs.Places.{from_alone, from_with, others_with, there_with}
use Rattle.desk_memo.proofs.memo.Memo.keep.Goals as goal

pub returns-then-is_absent-clause-from : goal.returns-then-is_absent-clause-from
returns-then-is_absent-clause-from g c = λ ruling among.
    from_alone (ruling_of c.args.kept) (map ruling_of c.args.self.now.rulings.items) (option_to_list (absent_of c.args.self.now)) ruling among

pub returns-in-Ok-clause-others : goal.returns-in-Ok-clause-others
returns-in-Ok-clause-others g c =
    let olds : List (Ruling g.row.V.Denot) = map ruling_of c.args.self.now.rulings.items in
    ap (others_of c.args.kept.top) c.in-Ok.ensures.rulings
    ∙ others_with (ruling_of c.args.kept) olds

pub returns-in-Ok-clause-there : goal.returns-in-Ok-clause-there
returns-in-Ok-clause-there g c =
    let olds : List (Ruling g.row.V.Denot) = map ruling_of c.args.self.now.rulings.items in
    let news : List (Ruling g.row.V.Denot) = map ruling_of c.keep_in.new.rulings.items in
    let is : news ≡ with_ruling (ruling_of c.args.kept) olds = c.in-Ok.ensures.rulings in
    Contains-append_left news (option_to_list (absent_of c.args.self.now)) (ruling_of c.args.kept)
    (subst (λ (it : List (Ruling g.row.V.Denot)). Contains it (ruling_of c.args.kept)) (sym is) (there_with (ruling_of c.args.kept) olds))

pub returns-in-Ok-clause-from : goal.returns-in-Ok-clause-from
returns-in-Ok-clause-from g c = λ ruling among.
    let olds : List (Ruling g.row.V.Denot) = map ruling_of c.args.self.now.rulings.items in
    let news : List (Ruling g.row.V.Denot) = map ruling_of c.keep_in.new.rulings.items in
    let is : news ≡ with_ruling (ruling_of c.args.kept) olds = c.in-Ok.ensures.rulings in
    from_with (ruling_of c.args.kept) olds (option_to_list (absent_of c.args.self.now)) ruling
    (subst (λ (it : List (Ruling g.row.V.Denot)). Contains (it ++ option_to_list (absent_of c.args.self.now)) ruling) is among)
