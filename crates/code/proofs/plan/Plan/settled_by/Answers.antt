use Rattle.std.proofs.Common.{rules}
use Rattle.code.proofs.Settling.{any_m_packets_settle_the_message, fewer_leave_every_other_row_open}
use Rattle.code.proofs.plan.Plan.settled_by.Goals as goal

pub returns : goal.returns
returns c = record { answers = search rules; enough = any_m_packets_settle_the_message; fewer = fewer_leave_every_other_row_open }
