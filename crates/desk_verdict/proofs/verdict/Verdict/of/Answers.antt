use Rattle.std.proofs.Common.{◌≡◌, ◌∙◌, List, length, map, min, take, rules, ap, subst}
use Rattle.std.proofs.lemmas.List.{take_min}
use Rattle.rtl_flat.specs.Flats.{flat_in}
use Rattle.rtl_rule.specs.declared.finding.Finding.{Finding}
use Rattle.demo_clean.specs.demo_replay.Firsts.{AreFirsts, told}
use Rattle.desk_report.specs.Tellings.{tellings}
use Rattle.desk_verdict.proofs.Said.{clean_is, firm_is}
use Rattle.desk_verdict.proofs.verdict.Verdict.of.Goals as goal

pub returns : goal.returns
returns c =
    let design = flat_in c.args.design.now in
    let signals = design.parts.flat.signals in
    let found = c.in_ok-ruling.ruling.findings.items in
    let shown = c.in_ok-shown.shown.items in
    let is = c.in_ok-ruling.ensures in
    let count : c.min-count.result ≡ min 64 (length found) = search rules in
    let taken : take c.min-count.result c.deref.result.now ≡ take 64 found =
    ap (λ n. take n c.deref.result.now) count ∙ ap (take (min 64 (length found))) c.deref.ensures.value ∙ take_min 64 found in
    record {
      found = found;
      are_all = is.findings;
      clean = clean_is c.in_ok-ruling.ruling.clean found is.clean;
      firm = firm_is c.in_ok-ruling.ruling.firm found is.firm;
      shown = shown;
      are_shown = subst (λ (some : List Finding). AreFirsts design.parts.flat some (map told shown)) taken c.in_ok-shown.ensures;
      told_is =
          c.in_ok-rows.ensures
          ∙ ap (λ (some : List Finding). tellings signals design.instances some c.deref-3.result.now) c.deref-2.ensures.value
          ∙ ap (tellings signals design.instances found) c.deref-3.ensures.value;
      promised = λ none. (record {
        chains = (is.chained (is.clean.1 none)).0;
        chained = (is.chained (is.clean.1 none)).1;
        agrees = is.sound (is.clean.1 none);
        known = is.known (is.clean.1 none);
        brought_up = is.brought_up (is.clean.1 none);
        bring_ups = is.bring_ups (is.clean.1 none);
        ends = is.ended (is.clean.1 none);
        levelled = is.levelled (is.clean.1 none);
        benches = is.benches (is.clean.1 none);
      });
      hardware = λ none. is.hardware (is.clean.1 none);
      firmly = λ none. is.sound_unknown (is.firm.1 none);
    }
