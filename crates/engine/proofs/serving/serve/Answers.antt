use Rattle.std.proofs.Common.{length, drop, refl, sym, ap, arith, add-zero}
use Rattle.std.proofs.KnownBytes.{Appends-nil}
use Rattle.std.proofs.lemmas.List.{length-take}
use Rattle.engine.specs.Input.{held}
use Rattle.engine.specs.declared.lines.Progress.{Progress}
use Rattle.engine.proofs.Faults.{no_failure, none_failed, not_ok, not_read, one_failed, read_no_settle, read_no_write, read_tells, settle_tells, write_tells}
use Rattle.engine.proofs.Telling.{both_told, no_reply_told, partly_told}
use Rattle.engine.proofs.Unknown.{so_begun, so_read_failed, so_went_on, so_stopped, so_broken, so_ended}
use Rattle.engine.proofs.serving.serve.Goals as goal

pub loop-init : goal.loop-init
loop-init g c = record {
  next = tt;
  finite = tt;
  reads = refl;
  writes = refl;
  settles = refl;
  empty = c.new-output.ensures;
  room = omega (arith, ap length c.new-input.ensures);
  so_far = so_begun g.P.Reading.meaning (held c.new-input.result) _ _ _ c.new-input.ensures
      (no_reply_told _ _ _ _ (Appends-nil (g.W.Writer.written c.args.writer.now)));
}

pub returns-in_default : goal.returns-in_default
returns-in_default g c = record {
  served = tt;
  flushed = tt;
  read_failed = λ h. so_read_failed g.P.Reading.meaning (held c.loop.input) _ _ _ _ _ _ c.loop.invariant.so_far c.in_default.ensures.kept;
  write_failed = λ other. absurd (read_no_write other);
  not_kept = λ other. absurd (read_no_settle other);
  read_fault = one_failed _ _ _ c.loop.invariant.reads c.in_default.ensures.failures refl;
  write_fault = none_failed _ _ _ c.loop.invariant.writes (sym (add-zero _)) read_no_write;
  settle_fault = none_failed _ _ _ c.loop.invariant.settles (sym (add-zero _)) read_no_settle;
}

pub returns-in_err-reply_last_line : goal.returns-in_err-reply_last_line
returns-in_err-reply_last_line g c = record {
  served = not_ok c.from_residual.result c.in_err-reply_last_line.field-0.0 c.from_residual.ensures _;
  flushed = not_ok c.from_residual.result c.in_err-reply_last_line.field-0.0 c.from_residual.ensures _;
  read_failed = λ read. absurd (not_read c.from_residual.result c.in_err-reply_last_line.field-0.0 c.from_residual.ensures read);
  write_failed = λ h. so_ended g.P.Reading.meaning (held c.loop.input) (held c.fill.new.self) c.in-Ok.n _ _ _ _ _ _
      c.loop.invariant.so_far c.in-Ok.ensures.gains _ _ _
      (λ rs ss made so. partly_told _ _ _ _ _ _ _ _ rs ss made so) _ c.if-n-eq0.true
      (rw c.held.ensures at c.in_err-reply_last_line.ensures.fault);
  not_kept = λ h. so_ended g.P.Reading.meaning (held c.loop.input) (held c.fill.new.self) c.in-Ok.n _ _ _ _ _ _
      c.loop.invariant.so_far c.in-Ok.ensures.gains _ _ _
      (λ rs ss made so. partly_told _ _ _ _ _ _ _ _ rs ss made so) _ c.if-n-eq0.true
      (rw c.held.ensures at c.in_err-reply_last_line.ensures.fault);
  read_fault = read_tells c.from_residual.result c.in_err-reply_last_line.field-0.0 c.from_residual.ensures _ _ _ c.loop.invariant.reads c.in-Ok.ensures.failures;
  write_fault = write_tells c.from_residual.result c.in_err-reply_last_line.field-0.0 c.from_residual.ensures (Unit {0}) _ _ _ c.loop.invariant.writes c.in_err-reply_last_line.ensures.write_failures;
  settle_fault = settle_tells c.from_residual.result c.in_err-reply_last_line.field-0.0 c.from_residual.ensures (Unit {0}) _ _ _ c.loop.invariant.settles c.in_err-reply_last_line.ensures.settle_failures;
}

pub returns-then-n-eq0 : goal.returns-then-n-eq0
returns-then-n-eq0 g c = record {
  served = so_ended g.P.Reading.meaning (held c.loop.input) (held c.fill.new.self) c.in-Ok.n _ _ _ _ _ _
      c.loop.invariant.so_far c.in-Ok.ensures.gains _ _ _
      (λ rs ss made so. both_told _ _ _ _ _ _ _ _ rs ss made so) _ c.if-n-eq0.true
      (rw c.held.ensures at c.in_ok-reply_last_line.ensures.told);
  flushed = c.in_ok-reply_last_line.ensures.flushed;
  read_failed = λ failed. absurd (no_failure _ failed);
  write_failed = λ failed. absurd (no_failure _ failed);
  not_kept = λ failed. absurd (no_failure _ failed);
  read_fault = none_failed _ _ _ c.loop.invariant.reads c.in-Ok.ensures.failures (no_failure _);
  write_fault = none_failed _ _ _ c.loop.invariant.writes c.in_ok-reply_last_line.ensures.write_failures (no_failure _);
  settle_fault = none_failed _ _ _ c.loop.invariant.settles c.in_ok-reply_last_line.ensures.settle_failures (no_failure _);
}

pub returns-in_err-reply_lines : goal.returns-in_err-reply_lines
returns-in_err-reply_lines g c = record {
  served = not_ok c.from_residual-in_err-reply_lines.result c.in_err-reply_lines.field-0.0 c.from_residual-in_err-reply_lines.ensures _;
  flushed = not_ok c.from_residual-in_err-reply_lines.result c.in_err-reply_lines.field-0.0 c.from_residual-in_err-reply_lines.ensures _;
  read_failed = λ read. absurd (not_read c.from_residual-in_err-reply_lines.result c.in_err-reply_lines.field-0.0 c.from_residual-in_err-reply_lines.ensures read);
  write_failed = λ h. so_broken g.P.Reading.meaning (held c.loop.input) (held c.fill.new.self) c.in-Ok.n _ _ _ _ _ _
      c.loop.invariant.so_far c.in-Ok.ensures.gains _ _ _
      (λ rs ss made so. partly_told _ _ _ _ _ _ _ _ rs ss made so)
      (rw c.held-in-loop.ensures at c.in_err-reply_lines.ensures.fault);
  not_kept = λ h. so_broken g.P.Reading.meaning (held c.loop.input) (held c.fill.new.self) c.in-Ok.n _ _ _ _ _ _
      c.loop.invariant.so_far c.in-Ok.ensures.gains _ _ _
      (λ rs ss made so. partly_told _ _ _ _ _ _ _ _ rs ss made so)
      (rw c.held-in-loop.ensures at c.in_err-reply_lines.ensures.fault);
  read_fault = read_tells c.from_residual-in_err-reply_lines.result c.in_err-reply_lines.field-0.0 c.from_residual-in_err-reply_lines.ensures _ _ _ c.loop.invariant.reads c.in-Ok.ensures.failures;
  write_fault = write_tells c.from_residual-in_err-reply_lines.result c.in_err-reply_lines.field-0.0 c.from_residual-in_err-reply_lines.ensures Progress _ _ _ c.loop.invariant.writes c.in_err-reply_lines.ensures.write_failures;
  settle_fault = settle_tells c.from_residual-in_err-reply_lines.result c.in_err-reply_lines.field-0.0 c.from_residual-in_err-reply_lines.ensures Progress _ _ _ c.loop.invariant.settles c.in_err-reply_lines.ensures.settle_failures;
}

pub returns-in-Stopped : goal.returns-in-Stopped
returns-in-Stopped g c = record {
  served = so_stopped g.P.Reading.meaning (held c.loop.input) (held c.fill.new.self) c.in-Ok.n _ _ _ _ _ _
      c.loop.invariant.so_far c.in-Ok.ensures.gains _ _ _
      (λ rs ss made so. both_told _ _ _ _ _ _ _ _ rs ss made so)
      (rw (c.held-in-loop.ensures, c.in-Stopped.is) at c.in_ok-reply_lines.ensures.told);
  flushed = c.in_ok-reply_lines.ensures.flushed;
  read_failed = λ failed. absurd (no_failure _ failed);
  write_failed = λ failed. absurd (no_failure _ failed);
  not_kept = λ failed. absurd (no_failure _ failed);
  read_fault = none_failed _ _ _ c.loop.invariant.reads c.in-Ok.ensures.failures (no_failure _);
  write_fault = none_failed _ _ _ c.loop.invariant.writes c.in_ok-reply_lines.ensures.write_failures (no_failure _);
  settle_fault = none_failed _ _ _ c.loop.invariant.settles c.in_ok-reply_lines.ensures.settle_failures (no_failure _);
}

pub loop-preserved : goal.loop-preserved
loop-preserved g c = record {
  next = tt;
  finite = tt;
  reads = omega (arith, c.in-Ok.ensures.failures, c.loop.invariant.reads);
  writes = omega (arith, c.in_ok-reply_lines.ensures.write_failures, c.loop.invariant.writes);
  settles = omega (arith, c.in_ok-reply_lines.ensures.settle_failures, c.loop.invariant.settles);
  empty = c.in_ok-reply_lines.ensures.empty;
  room = rw c.keep_from.ensures (omega (arith, length-take 513 (drop c.in-Replied.used (held c.fill.new.self))));
  so_far = rw c.keep_from.ensures (so_went_on g.P.Reading.meaning (held c.loop.input) (held c.fill.new.self) c.in-Ok.n _ _
      _ _ _ _ c.loop.invariant.so_far c.in-Ok.ensures.gains _ _ _
      (λ rs ss made so. both_told _ _ _ _ _ _ _ _ rs ss made so) c.if-n-eq0.false c.in-Replied.used
      (rw (c.held-in-loop.ensures, c.in-Replied.is) at c.in_ok-reply_lines.ensures.told));
}
