-- Layer, number and place of each fault of the receiver. Assumes nothing.
use Rattle.checks.specs.declared.fault.Fault.{Fault}
use Rattle.checks.specs.declared.fault.Layer.TheVariants.{Receiver}
use Rattle.packet.specs.Faults.{packet_fault}
use Rattle.receiver.specs.declared.fault.ReceiverFault.{ReceiverFault}
use Rattle.receiver.specs.declared.fault.ReceiverFault.TheVariants.{Packet, Count, OtherField, Symbol, Number, OtherJob, Repeated, Contradicts, TooFew}

-- a packet fault still names the packet layer
abbrev pub receiver_fault : ReceiverFault → Fault
receiver_fault (Packet f) = packet_fault f
receiver_fault (Count wanted) = record { layer = Receiver; number = 5; place = wanted }
receiver_fault (OtherField q) = record { layer = Receiver; number = 6; place = q }
receiver_fault (Symbol s) = record { layer = Receiver; number = 7; place = s }
receiver_fault (Number n) = record { layer = Receiver; number = 8; place = n }
receiver_fault (OtherJob byte) = record { layer = Receiver; number = 11; place = byte }
receiver_fault (Repeated n) = record { layer = Receiver; number = 12; place = n }
receiver_fault (Contradicts s) = record { layer = Receiver; number = 13; place = s }
receiver_fault (TooFew count) = record { layer = Receiver; number = 14; place = count }
