-- The faults of the job layer: their layer, their number and their place. Assumes nothing.
use Rattle.checks.specs.declared.fault.Fault.{Fault}
use Rattle.checks.specs.declared.fault.Layer.TheVariants.{Job}
use Rattle.job.specs.declared.fault.JobFault.{JobFault}
use Rattle.job.specs.declared.fault.JobFault.TheVariants.{Count, Capacity, Symbol, Rest}

abbrev pub job_fault : JobFault → Fault
job_fault (Count wanted) = record { layer = Job; number = 5; place = wanted }
job_fault (Capacity most) = record { layer = Job; number = 15; place = most }
job_fault (Symbol place) = record { layer = Job; number = 16; place = place }
job_fault (Rest place) = record { layer = Job; number = 17; place = place }
