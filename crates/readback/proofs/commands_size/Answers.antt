use native.Mathlib.Omega.{arith}
use mathlib.Core.Path.{refl}
use Rattle.readback.proofs.CommandLaws.{count-end, count-here, count_low, count_next, count-start, count_room, count-to}
use Rattle.recognition.proofs.ScanLaws.{terms-order}
use Rattle.recognition.proofs.TermsLaws.{over_end, turn}
use Rattle.readback.proofs.commands_size.Goals as goal

pub loop-at-init : goal.loop-at-init
loop-at-init c =
    let q = c.requires.0 in
    rw (c.into_iter-at-iterator.ensures.into_iter_gives, c.between-at-items.ensures) (record {
      next = ((q.0, q.1), c.requires.1);
      finite = tt;
      over = record { source = refl; width = refl; end = refl };
      left = λ ts h. count-start h;
      low = omega arith;
    })

pub own_command_size-n-requires : goal.own_command_size-n-requires
own_command_size-n-requires c =
    let q = c.requires.0 in
    let v = turn c.loop-at.invariant.over c.in-Some.ensures.steps in
    let u = count-here (count-to v.here (c.loop-at.invariant.left q.0 q.1)) v.some in
    (c.args.k, u.0, u.1)

pub overflow_add-n : goal.overflow_add-n
overflow_add-n c =
    let q = c.requires.0 in
    let v = turn c.loop-at.invariant.over c.in-Some.ensures.steps in
    omega (arith, count_room (count-to v.here (c.loop-at.invariant.left q.0 q.1)) v.some c.own_command_size-n.result (c.own_command_size-n.ensures c.args.k), c.loop-at.invariant.low, v.here, c.requires.1)

pub loop-at-preserved : goal.loop-at-preserved
loop-at-preserved c =
    let q = c.requires.0 in
    let m = c.own_command_size-n.ensures c.args.k in
    let v = turn c.loop-at.invariant.over c.in-Some.ensures.steps in
    record {
      next = c.in-Some.ensures.goes.keeps;
      finite = tt;
      over = v.over;
      left = λ ts h. count_next (count-to v.here (c.loop-at.invariant.left ts h)) v.some c.own_command_size-n.result _ m v.step;
      low = omega (arith, count_low (count-to v.here (c.loop-at.invariant.left q.0 q.1)) v.some c.own_command_size-n.result _ m v.step, c.loop-at.invariant.low, v.here);
    }

pub returns : goal.returns
returns c =
    let q = c.requires.0 in
    let o = over_end c.loop-at.invariant.over c.in-None.ensures.steps in
    record {
      is = λ ts h. count-end (c.loop-at.invariant.left ts h) o;
      low = omega (arith, terms-order (c.loop-at.invariant.left q.0 q.1).row, c.loop-at.invariant.low);
    }
