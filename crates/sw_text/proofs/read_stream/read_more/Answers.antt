use Rattle.sw_text.proofs.Rests.{at_any_error, none_taken, some_taken}
use Rattle.sw_text.proofs.read_stream.read_more.Goals as goal

pub returns-in_err-count-clause-failed : goal.returns-in_err-count-clause-failed
returns-in_err-count-clause-failed g c =
    at_any_error c.from_residual.result (none_taken _ _ c.read.result c.read.new.buf _ c.in_err-count.ensures.failed.1 c.read.ensures.bytes)

pub returns-in_err-extend_from_slice-clause-failed : goal.returns-in_err-extend_from_slice-clause-failed
returns-in_err-extend_from_slice-clause-failed g c =
    at_any_error c.from_residual-in_err-extend_from_slice.result (some_taken _ _ c.read.result c.read.new.buf c.in_ok-count.count _ c.in_ok-count.ensures.given c.read.ensures.bytes c.read.auto.buf)
