use Rattle.std.proofs.lemmas.Bool.Decides.{same_from_decides}
use Rattle.std.proofs.lemmas.Slice.Eq.{bytes_eq-Decides}
use Rattle.desk_http.proofs.lines.is_same_name.Goals as goal

pub returns : goal.returns
returns c =
    same_from_decides _ _ (c.eq_ignore_ascii_case.ensures.test.0, c.eq_ignore_ascii_case.ensures.test.1) (bytes_eq-Decides _ _)
