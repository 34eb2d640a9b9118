-- Layers and faults in output. Assumes nothing.
--     layer_name l    the name of a layer
--     fault_text f    the layer, the number and the place of a fault, in decimal, parted by spaces
use Rattle.std.specs.Prelude.{ℕ, List, ◌++◌, codes, decimal}
use Rattle.checks.specs.declared.fault.Fault.{Fault}
use Rattle.checks.specs.declared.fault.Layer.{Layer}
use Rattle.checks.specs.declared.fault.Layer.TheVariants.{Input, Plan, Packet, Receiver, Sheet, Job}

abbrev pub layer_name : Layer → List ℕ
layer_name Input = codes "input"
layer_name Plan = codes "plan"
layer_name Packet = codes "packet"
layer_name Receiver = codes "receiver"
layer_name Sheet = codes "sheet"
layer_name Job = codes "job"

abbrev pub fault_text : Fault → List ℕ
fault_text f = layer_name f.layer ++ (codes " " ++ (decimal f.number ++ (codes " " ++ decimal f.place)))
