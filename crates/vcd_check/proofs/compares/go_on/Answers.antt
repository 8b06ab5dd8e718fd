use Rattle.std.proofs.Common.{◌≡◌, ◌∙◌, ◌+◌, ◌-◌, ◌<◌, ◌≤◌, ◌++◌, ◌∷◌, [], ℕ, suc, true, false, Bool, List, drop, length, ap, subst, sym, refl, arith}
use Rattle.std.specs.Prelude.{Option, Some}
use Rattle.std.specs.List.{slice_get}
use Rattle.std.proofs.Math.Numerals.{add-one}
use Rattle.std.proofs.lemmas.Option.{slice_get_within}
use Rattle.rtl_bits.specs.declared.Bit.{Bit}
use Rattle.rtl_flat.specs.declared.design.Design.{Design}
use Rattle.rtl_flat.specs.Flats.{flat}
use Rattle.netlist_eval.specs.Sims.{shown}
use Rattle.netlist_eval.specs.net_start.Stored.{places}
use Rattle.vcd_signals.specs.Recording.{IsAt, kept, sights_of}
use Rattle.vcd_signals.specs.Signals.{Sight}
use Rattle.vcd_check.specs.Checks.{Follows, IsNetlistOf, seen, watched_of}
use Rattle.vcd_check.specs.Departure.{AreFirst, Agrees, Begun, Followed, IsDeparture}
use Rattle.vcd_check.specs.Verdicts.{IsTold}
use Rattle.vcd_check.proofs.Going.{agrees, counted, departure, differing, drop_here, drop_past, element, longer, same_on, same_sights, same_values}
use Rattle.vcd_check.proofs.compares.go_on.Goals as goal

pub frames-init : goal.frames-init
frames-init c =
    let old = c.args.recorder.now in
    let d = flat c.args.design.now in
    let w = watched_of c.args.basis.now in
    let n = shown c.args.net.now in
    let found = element (sights_of old) c.args.start c.requires.there in
    let at : IsAt old found.0 = c.requires.at found.0 found.1 in
    record {
      checked = c.requires.checked;
      same = record { design = refl; scope = refl; text = refl };
      before = [];
      sight = found.0;
      there = found.1;
      at = at;
      reaches = Begun found.0 n (subst (λ (v : ℕ → Option (List Bit)). AreFirst d w (record { time = 0; value = v }) n) (same_values old found.0 at) c.requires.begun);
      all = drop_here (sights_of old) c.args.start found.0 found.1;
      count = omega arith;
    }

pub departs-requires-clause-frame : goal.departs-requires-clause-frame
departs-requires-clause-frame c =
    let old = c.args.recorder.now in
    let now = c.frames.recorder in
    let inv = c.frames.invariant in
    let design = c.args.design.now in
    let d = flat design in
    let basis = c.args.basis.now in
    let w = watched_of basis in
    let every = sights_of old in
    let k = c.frames.frame in
    let n = shown c.frames.net in
    let here : k < length every = slice_get_within every k inv.sight inv.there in
    let until : c.count-count.result ≡ length every = c.count-count.ensures in
    subst (λ (l : List Sight). k < length l) (sym (same_sights old now inv.same)) here

pub returns-in-Some-clause-told : goal.returns-in-Some-clause-told
returns-in-Some-clause-told c =
    let old = c.args.recorder.now in
    let now = c.frames.recorder in
    let inv = c.frames.invariant in
    let design = c.args.design.now in
    let d = flat design in
    let basis = c.args.basis.now in
    let w = watched_of basis in
    let every = sights_of old in
    let k = c.frames.frame in
    let n = shown c.frames.net in
    let here : k < length every = slice_get_within every k inv.sight inv.there in
    let until : c.count-count.result ≡ length every = c.count-count.ensures in
    let first = c.in-Some.ensures in
    let signal = c.in-Some.signal in
    let holders = places basis.holders.items in
    let found = differing d holders c.args.stored.now inv.checked.basis_is.holders inv.checked.stored_are (kept now signal.0) (n signal.0) first.fails_is in
    let made = departure d holders c.args.stored.now inv.checked.basis_is.holders inv.checked.stored_are inv.sight.time (λ i. kept now i) n signal.0 found.0 first found.1 found.2 in
    let departed : IsDeparture d inv.sight n signal.0 found.0 =
    subst (λ (v : ℕ → Option (List Bit)). IsDeparture d (record { time = inv.sight.time; value = v }) n signal.0 found.0) (same_values now inv.sight inv.at) made in
    let answer = c.departs.ensures inv.sight found.0 (ap (λ (l : List Sight). slice_get l k) (same_sights old now inv.same) ∙ inv.there) found.1 in
    subst (IsTold d w every) (sym answer)
    (record {
      before = inv.before;
      sight = inv.sight;
      behind = drop (suc k) every;
      numbers = n;
      all = c.requires.from ∙ inv.all;
      reaches = inv.reaches;
      departure = departed;
      time_is = refl;
      synthesised_is = refl;
    })

pub overflow_add-frame : goal.overflow_add-frame
overflow_add-frame c =
    let old = c.args.recorder.now in
    let now = c.frames.recorder in
    let inv = c.frames.invariant in
    let design = c.args.design.now in
    let d = flat design in
    let basis = c.args.basis.now in
    let w = watched_of basis in
    let every = sights_of old in
    let k = c.frames.frame in
    let n = shown c.frames.net in
    let here : k < length every = slice_get_within every k inv.sight inv.there in
    let until : c.count-count.result ≡ length every = c.count-count.ensures in
    let top = c.count-count.type_inv in
    omega (arith, here, until, top)

pub returns-then-frame-count-clause-told : goal.returns-then-frame-count-clause-told
returns-then-frame-count-clause-told c =
    let old = c.args.recorder.now in
    let now = c.frames.recorder in
    let inv = c.frames.invariant in
    let design = c.args.design.now in
    let d = flat design in
    let basis = c.args.basis.now in
    let w = watched_of basis in
    let every = sights_of old in
    let k = c.frames.frame in
    let n = shown c.frames.net in
    let here : k < length every = slice_get_within every k inv.sight inv.there in
    let until : c.count-count.result ≡ length every = c.count-count.ensures in
    let none = agrees d (places basis.holders.items) c.args.stored.now inv.checked.basis_is.holders inv.checked.stored_are inv.sight.time (λ i. kept now i) n c.in_default.ensures in
    let agreed : Agrees d inv.sight n = subst (λ (v : ℕ → Option (List Bit)). Agrees d (record { time = inv.sight.time; value = v }) n) (same_values now inv.sight inv.at) none in
    let last : length every ≤ suc k = let e = c.if-frame-count.true in omega (arith, until, e) in
    let so = inv.count in
    record {
      before = inv.before;
      last = inv.sight;
      numbers = n;
      all = c.requires.from ∙ inv.all ∙ ap (λ (l : List Sight). inv.before ++ inv.sight ∷ l) (drop_past every (suc k) last);
      reaches = inv.reaches;
      agrees = agreed;
      count = omega (arith, so);
    }

pub go_to-requires-clause-there : goal.go_to-requires-clause-there
go_to-requires-clause-there c =
    let old = c.args.recorder.now in
    let now = c.frames.recorder in
    let inv = c.frames.invariant in
    let design = c.args.design.now in
    let d = flat design in
    let basis = c.args.basis.now in
    let w = watched_of basis in
    let every = sights_of old in
    let k = c.frames.frame in
    let n = shown c.frames.net in
    let here : k < length every = slice_get_within every k inv.sight inv.there in
    let until : c.count-count.result ≡ length every = c.count-count.ensures in
    let more : k + 1 < length every = let no = c.if-frame-count.false in omega (arith, here, until, no) in
    subst (λ (l : List Sight). k + 1 < length l) (sym (same_sights old now inv.same)) more

pub follow-requires-clause-recorder : goal.follow-requires-clause-recorder
follow-requires-clause-recorder c =
    let old = c.args.recorder.now in
    let now = c.frames.recorder in
    let inv = c.frames.invariant in
    let design = c.args.design.now in
    let d = flat design in
    let basis = c.args.basis.now in
    let w = watched_of basis in
    let every = sights_of old in
    let k = c.frames.frame in
    let n = shown c.frames.net in
    let here : k < length every = slice_get_within every k inv.sight inv.there in
    let until : c.count-count.result ≡ length every = c.count-count.ensures in
    let more : k + 1 < length every = let no = c.if-frame-count.false in omega (arith, here, until, no) in
    let found = element every (k + 1) more in
    let next = found.0 in
    let there = found.1 in
    let after = c.go_to.new.self in
    let at : IsAt after next = c.go_to.ensures.at next (ap (λ (l : List Sight). slice_get l (k + 1)) (same_sights old now inv.same) ∙ there) in
    at.is_recorder

pub time-requires : goal.time-requires
time-requires c =
    let old = c.args.recorder.now in
    let now = c.frames.recorder in
    let inv = c.frames.invariant in
    let design = c.args.design.now in
    let d = flat design in
    let basis = c.args.basis.now in
    let w = watched_of basis in
    let every = sights_of old in
    let k = c.frames.frame in
    let n = shown c.frames.net in
    let here : k < length every = slice_get_within every k inv.sight inv.there in
    let until : c.count-count.result ≡ length every = c.count-count.ensures in
    let more : k + 1 < length every = let no = c.if-frame-count.false in omega (arith, here, until, no) in
    let found = element every (k + 1) more in
    let next = found.0 in
    let there = found.1 in
    let after = c.go_to.new.self in
    let at : IsAt after next = c.go_to.ensures.at next (ap (λ (l : List Sight). slice_get l (k + 1)) (same_sights old now inv.same) ∙ there) in
    subst (λ (l : List Sight). k + 1 < length l) (sym (same_sights old after (same_on old now after inv.same c.go_to.ensures.same))) more

pub returns-then-not-branch-clause-fault : goal.returns-then-not-branch-clause-fault
returns-then-not-branch-clause-fault c =
    let old = c.args.recorder.now in
    let now = c.frames.recorder in
    let inv = c.frames.invariant in
    let design = c.args.design.now in
    let d = flat design in
    let basis = c.args.basis.now in
    let w = watched_of basis in
    let every = sights_of old in
    let k = c.frames.frame in
    let n = shown c.frames.net in
    let here : k < length every = slice_get_within every k inv.sight inv.there in
    let until : c.count-count.result ≡ length every = c.count-count.ensures in
    let more : k + 1 < length every = let no = c.if-frame-count.false in omega (arith, here, until, no) in
    let found = element every (k + 1) more in
    let next = found.0 in
    let there = found.1 in
    let after = c.go_to.new.self in
    let at : IsAt after next = c.go_to.ensures.at next (ap (λ (l : List Sight). slice_get l (k + 1)) (same_sights old now inv.same) ∙ there) in
    let none = agrees d (places basis.holders.items) c.args.stored.now inv.checked.basis_is.holders inv.checked.stored_are inv.sight.time (λ i. kept now i) n c.in_default.ensures in
    let agreed : Agrees d inv.sight n = subst (λ (v : ℕ → Option (List Bit)). Agrees d (record { time = inv.sight.time; value = v }) n) (same_values now inv.sight inv.at) none in
    let follows = subst (λ (one : Design). Follows (flat one) w n (seen after) c.in_ok-follow.field-0 (shown c.follow.new.net)) inv.checked.netlist_is.design_is c.in_ok-follow.ensures.follows in
    let seen_there = subst (λ (v : ℕ → Option (List Bit)). Follows d w n (record { time = 0; value = v }) c.in_ok-follow.field-0 (shown c.follow.new.net)) (same_values after next at) follows in
    let unread = subst (λ (b : Bool). Follows d w n next b (shown c.follow.new.net)) c.if-not-branch.true seen_there in
    record {
      before = inv.before;
      sight = inv.sight;
      next = next;
      behind = drop (suc (suc k)) every;
      numbers = n;
      all = c.requires.from ∙ inv.all ∙ ap (λ (l : List Sight). inv.before ++ inv.sight ∷ l) (drop_here every (suc k) next (ap (λ (m : ℕ). slice_get every m) (sym (add-one k)) ∙ there));
      reaches = inv.reaches;
      agrees = agreed;
      none = unread;
      time_is = c.time.ensures next (ap (λ (l : List Sight). slice_get l (k + 1)) (same_sights old after (same_on old now after inv.same c.go_to.ensures.same)) ∙ there);
    }

pub frames-smaller : goal.frames-smaller
frames-smaller c =
    let old = c.args.recorder.now in
    let now = c.frames.recorder in
    let inv = c.frames.invariant in
    let design = c.args.design.now in
    let d = flat design in
    let basis = c.args.basis.now in
    let w = watched_of basis in
    let every = sights_of old in
    let k = c.frames.frame in
    let n = shown c.frames.net in
    let here : k < length every = slice_get_within every k inv.sight inv.there in
    let until : c.count-count.result ≡ length every = c.count-count.ensures in
    omega (arith, here)

pub frames-preserved : goal.frames-preserved
frames-preserved c =
    let old = c.args.recorder.now in
    let now = c.frames.recorder in
    let inv = c.frames.invariant in
    let design = c.args.design.now in
    let d = flat design in
    let basis = c.args.basis.now in
    let w = watched_of basis in
    let every = sights_of old in
    let k = c.frames.frame in
    let n = shown c.frames.net in
    let here : k < length every = slice_get_within every k inv.sight inv.there in
    let until : c.count-count.result ≡ length every = c.count-count.ensures in
    let more : k + 1 < length every = let no = c.if-frame-count.false in omega (arith, here, until, no) in
    let found = element every (k + 1) more in
    let next = found.0 in
    let there = found.1 in
    let after = c.go_to.new.self in
    let at : IsAt after next = c.go_to.ensures.at next (ap (λ (l : List Sight). slice_get l (k + 1)) (same_sights old now inv.same) ∙ there) in
    let none = agrees d (places basis.holders.items) c.args.stored.now inv.checked.basis_is.holders inv.checked.stored_are inv.sight.time (λ i. kept now i) n c.in_default.ensures in
    let agreed : Agrees d inv.sight n = subst (λ (v : ℕ → Option (List Bit)). Agrees d (record { time = inv.sight.time; value = v }) n) (same_values now inv.sight inv.at) none in
    let follows = subst (λ (one : Design). Follows (flat one) w n (seen after) c.in_ok-follow.field-0 (shown c.follow.new.net)) inv.checked.netlist_is.design_is c.in_ok-follow.ensures.follows in
    let seen_there = subst (λ (v : ℕ → Option (List Bit)). Follows d w n (record { time = 0; value = v }) c.in_ok-follow.field-0 (shown c.follow.new.net)) (same_values after next at) follows in
    let read = subst (λ (b : Bool). Follows d w n next b (shown c.follow.new.net)) c.if-not-branch.false seen_there in
    let so = inv.count in
    record {
      checked = record {
        is_recorder = at.is_recorder;
        design_is = c.go_to.ensures.same.design ∙ inv.checked.design_is;
        basis_is = inv.checked.basis_is;
        stored_are = inv.checked.stored_are;
        netlist_is = subst (IsNetlistOf design) (sym c.in_ok-follow.ensures.netlist) inv.checked.netlist_is;
      };
      same = same_on old now after inv.same c.go_to.ensures.same;
      before = inv.before ++ inv.sight ∷ [];
      sight = next;
      there = there;
      at = at;
      reaches = Followed inv.before inv.sight next n (shown c.follow.new.net) read.0 inv.reaches agreed read.1 read.2;
      all = longer every inv.before c.args.start k inv.sight next inv.all (ap (λ (m : ℕ). slice_get every m) (sym (add-one k)) ∙ there)
          ∙ ap (λ (m : ℕ). (inv.before ++ inv.sight ∷ []) ++ next ∷ drop (suc m) every) (sym (add-one k));
      count = counted inv.before inv.sight k c.args.start inv.count;
    }
