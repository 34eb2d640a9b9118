-- Layer, number and place of each fault of joining. Assumes nothing.
use Rattle.checks.specs.declared.fault.Fault.{Fault}
use Rattle.checks.specs.declared.fault.Layer.TheVariants.{Input}
use Rattle.job.specs.Faults.{job_fault}
use Rattle.receiver.specs.Faults.{receiver_fault}
use Rattle.joining.specs.declared.fault.JoinFault.{JoinFault}
use Rattle.joining.specs.declared.fault.JoinFault.TheVariants.{NoPacket, NoField, Receiver, Job}

-- a fault of a layer below still names that layer
abbrev pub join_fault : JoinFault → Fault
join_fault (NoPacket bytes) = record { layer = Input; number = 9; place = bytes }
join_fault (NoField place) = record { layer = Input; number = 10; place = place }
join_fault (Receiver f) = receiver_fault f
join_fault (Job f) = job_fault f
