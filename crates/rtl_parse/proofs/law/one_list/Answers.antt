use Rattle.rtl_parse.proofs.OneList.{one_list}
use Rattle.rtl_parse.proofs.law.one_list.Goals as goal

pub returns : goal.returns
returns c = one_list
