use Rattle.std.proofs.Common.{◌≡◌, ◌∙◌, ◌+◌, ◌<◌, None, Some, true, false, Bool, drop, length, ap, subst, sym, arith}
use Rattle.std.proofs.lemmas.List.{length-map}
use Rattle.desk_memo.specs.Readings.{changed_count}
use Rattle.desk_memo.specs.ShownReadings.{IsMade, down_count, flags_in, is_current, modules_of, readings_of}
use Rattle.desk_memo.proofs.Known.{known_left_by, made_known_next}
use Rattle.desk_memo.proofs.MadeReadings.{all_left, as_many, down_less, down_same, held_length, made_all, made_next}
use Rattle.desk_memo.proofs.readings.Readings.read_changed.Goals as goal
use Rattle.desk_memo.proofs.readings.Readings.read_changed.Goals.{then-is_current+in_ok-push_none, else-is_current+in_ok-read+in_ok-push}

pub index-requires : goal.index-requires
index-requires g c =
    omega (arith, held_length c.args.files.now c.args.self.now.readings.items (modules_of c.args.self.now) c.requires.right, c.args.self.now.readings.ok.0)

pub returns-in_err-push_none-clause-counted : goal.returns-in_err-push_none-clause-counted
returns-in_err-push_none-clause-counted g c =
    let many : down_count (flags_in c.args.self.now.readings.items) ≡ changed_count c.args.files.now (readings_of c.args.self.now) =
    ap down_count c.requires.flagged ∙ as_many c.args.files.now (readings_of c.args.self.now) in
    omega arith

pub returns-in_err-read-clause-counted : goal.returns-in_err-read-clause-counted
returns-in_err-read-clause-counted g c =
    let many : down_count (flags_in c.args.self.now.readings.items) ≡ changed_count c.args.files.now (readings_of c.args.self.now) =
    ap down_count c.requires.flagged ∙ as_many c.args.files.now (readings_of c.args.self.now) in
    let inside : c.loop-number.number < length c.args.self.now.readings.items =
    omega (arith, held_length c.args.files.now c.args.self.now.readings.items (modules_of c.args.self.now) c.requires.right) in
    let less : down_count (drop c.loop-number.number (flags_in c.args.self.now.readings.items)) ≡ 1 + down_count (drop (c.loop-number.number + 1) (flags_in c.args.self.now.readings.items)) =
    down_less c.args.self.now.readings.items c.loop-number.number c.index.result.now inside c.index.ensures (sym c.is_current.ensures ∙ c.if-is_current.false) in
    omega (arith, c.read.ensures.counted)

pub returns-in_err-push-clause-counted : goal.returns-in_err-push-clause-counted
returns-in_err-push-clause-counted g c =
    let many : down_count (flags_in c.args.self.now.readings.items) ≡ changed_count c.args.files.now (readings_of c.args.self.now) =
    ap down_count c.requires.flagged ∙ as_many c.args.files.now (readings_of c.args.self.now) in
    let inside : c.loop-number.number < length c.args.self.now.readings.items =
    omega (arith, held_length c.args.files.now c.args.self.now.readings.items (modules_of c.args.self.now) c.requires.right) in
    let less : down_count (drop c.loop-number.number (flags_in c.args.self.now.readings.items)) ≡ 1 + down_count (drop (c.loop-number.number + 1) (flags_in c.args.self.now.readings.items)) =
    down_less c.args.self.now.readings.items c.loop-number.number c.index.result.now inside c.index.ensures (sym c.is_current.ensures ∙ c.if-is_current.false) in
    omega (arith, c.read.ensures.counted)

pub loop-number-preserved : goal.loop-number-preserved
loop-number-preserved g c =
    let inside : c.loop-number.number < length c.args.self.now.readings.items =
    omega (arith, held_length c.args.files.now c.args.self.now.readings.items (modules_of c.args.self.now) c.requires.right) in
    elim c.if-is_current.branch [
      | then-is_current+in_ok-push_none w ↦
          let up : is_current c.index.result.now ≡ true = sym c.is_current.ensures ∙ w.if-is_current.true in
          let same = down_same c.args.self.now.readings.items c.loop-number.number c.index.result.now inside c.index.ensures up in
          record {
            made =
                made_next c.args.files.now c.args.self.now.readings.items c.loop-number.number c.index-files-number.result c.index.result.now c.loop-number.aside.readings.items c.if-is_current.aside.readings.items c.loop-number.aside.modules.items c.if-is_current.aside.modules.items None None
                (omega arith) inside c.index-files-number.is c.index.ensures c.loop-number.invariant.made
                (subst (λ (it : Bool). IsMade {V = g.row.V.Denot} c.index-files-number.result it None None) (sym up) tt)
                (ap (λ it. it.readings.items) w.aside-is ∙ w.in_ok-push_none.ensures.readings)
                (ap (λ it. it.modules.items) w.aside-is ∙ w.in_ok-push_none.ensures.modules);
            known =
                made_known_next c.loop-number.aside.readings.items c.if-is_current.aside.readings.items c.loop-number.aside.conditions.items c.if-is_current.aside.conditions.items None None c.loop-number.invariant.known tt
                (ap (λ it. it.readings.items) w.aside-is ∙ w.in_ok-push_none.ensures.readings)
                (ap (λ it. it.conditions.items) w.aside-is ∙ w.in_ok-push_none.ensures.conditions);
            counted = omega (arith, same, w.steps-is);
          }
      | else-is_current+in_ok-read+in_ok-push w ↦
          let low : is_current c.index.result.now ≡ false = sym c.is_current.ensures ∙ w.if-is_current.false in
          let less = down_less c.args.self.now.readings.items c.loop-number.number c.index.result.now inside c.index.ensures low in
          record {
            made =
                made_next c.args.files.now c.args.self.now.readings.items c.loop-number.number c.index-files-number.result c.index.result.now c.loop-number.aside.readings.items c.if-is_current.aside.readings.items c.loop-number.aside.modules.items c.if-is_current.aside.modules.items (Some (Some w.in_ok-read.field-0.reading)) (Some w.in_ok-read.field-0.modules)
                (omega arith) inside c.index-files-number.is c.index.ensures c.loop-number.invariant.made
                (subst (λ (it : Bool). IsMade {V = g.row.V.Denot} c.index-files-number.result it (Some (Some w.in_ok-read.field-0.reading)) (Some w.in_ok-read.field-0.modules)) (sym low) w.in_ok-read.ensures.new)
                (ap (λ it. it.readings.items) w.aside-is ∙ w.in_ok-push.ensures.readings)
                (ap (λ it. it.modules.items) w.aside-is ∙ w.in_ok-push.ensures.modules);
            known =
                made_known_next c.loop-number.aside.readings.items c.if-is_current.aside.readings.items c.loop-number.aside.conditions.items c.if-is_current.aside.conditions.items (Some (Some w.in_ok-read.field-0.reading)) (Some w.in_ok-read.field-0.conditions) c.loop-number.invariant.known w.in_ok-read.ensures.known
                (ap (λ it. it.readings.items) w.aside-is ∙ w.in_ok-push.ensures.readings)
                (ap (λ it. it.conditions.items) w.aside-is ∙ w.in_ok-push.ensures.conditions);
            counted = omega (arith, less, w.steps-is, w.read.ensures.counted);
          }
    ]

pub returns-clause-counted : goal.returns-clause-counted
returns-clause-counted g c =
    let many : down_count (flags_in c.args.self.now.readings.items) ≡ changed_count c.args.files.now (readings_of c.args.self.now) =
    ap down_count c.requires.flagged ∙ as_many c.args.files.now (readings_of c.args.self.now) in
    omega arith

pub returns-clause-aside : goal.returns-clause-aside
returns-clause-aside g c =
    let left =
    all_left c.args.files.now c.args.self.now.readings.items c.args.self.now.modules.items c.loop-number.aside.readings.items c.loop-number.aside.modules.items c.requires.right c.requires.flagged
    (made_all c.args.files.now (flags_in c.args.self.now.readings.items) c.loop-number.number c.loop-number.aside.readings.items c.loop-number.aside.modules.items (omega arith)
    (omega (arith, length-map c.args.self.now.readings.items is_current, held_length c.args.files.now c.args.self.now.readings.items (modules_of c.args.self.now) c.requires.right))
    c.loop-number.invariant.made) in
    record {
      right = left.right;
      known =
          known_left_by c.loop-number.aside.readings.items c.loop-number.aside.conditions.items c.args.self.now.readings.items c.args.self.now.conditions.items c.loop-number.invariant.known c.requires.known;
      flagged = left.flagged;
      unchanged = left.unchanged;
      same = left.same;
    }
