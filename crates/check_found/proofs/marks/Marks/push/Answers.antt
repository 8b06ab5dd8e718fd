use Rattle.std.proofs.Common.{◌∙◌, ◌++◌, map, sym, ap, append-nil}
use Rattle.std.specs.Ordering.{nat_cmp}
use Rattle.std.specs.BTreeMap.{is_at}
use Rattle.std.proofs.lemmas.Map.Entries.{lookup-filter-keys}
use Rattle.check_found.specs.Marked.{passing, shown, wants}
use Rattle.check_found.proofs.Shown.{key_at, pass_sorted}
use Rattle.check_found.proofs.marks.Marks.push.Goals as goal

pub returns : goal.returns
returns c =
    let test = wants c.args.among in
    let entries = c.args.self.now.spots.entries in
    let show = shown c.args.rule c.args.process.now.instance in
    record {
      entries = passing test entries;
      sorted = pass_sorted test entries c.into_iter-signal-iterator.ensures.into_iter_gives.5;
      each = λ s. lookup-filter-keys (is_at (nat_cmp s)) test (test s) (λ k at. ap test (key_at s k at)) entries;
      is = sym (ap (λ es. c.loop-signal.found.items ++ map show (passing test es)) c.in-None.ensures.steps.0 ∙ append-nil c.loop-signal.found.items) ∙ c.loop-signal.invariant;
    }
