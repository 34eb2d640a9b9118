-- A packet fault's number and place. Assumes nothing.
use Rattle.checks.specs.declared.fault.Fault.{Fault}
use Rattle.checks.specs.declared.fault.Layer.TheVariants.{Packet}
use Rattle.packet.specs.declared.fault.PacketFault.{PacketFault}
use Rattle.packet.specs.declared.fault.PacketFault.TheVariants.{Count, Length, Layout}

abbrev pub packet_fault : PacketFault → Fault
packet_fault (Count wanted) = record { layer = Packet; number = 5; place = wanted }
packet_fault (Length bytes) = record { layer = Packet; number = 9; place = bytes }
packet_fault (Layout place) = record { layer = Packet; number = 10; place = place }
