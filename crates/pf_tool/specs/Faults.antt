-- The line and the status of each fault.
use Rattle.std.specs.Prelude.{◌≡◌, ℕ, List}
use Rattle.pf_tool.specs.Endings.{Ending, Refusal, BadName, NotFound, KeyFile, NotProtected, BadVersion, TooLarge, NotUtf8, BadTemplate, BadManifest, BadLayout, Absent, Unbuilt, Damaged, Refused, ending_line, ending_status, no_command_line, host_line, memory_line, random_line, stream_line}
use Rattle.file_sums.specs.declared.fault.AllFault.{AllFault}
use Rattle.file_sums.specs.declared.fault.AllFault.TheVariants as all_faults
use Rattle.file_sums.specs.declared.fault.SumFault.TheVariants as sum_faults
use Rattle.enclave_measure.specs.declared.fault.LayoutFault.{LayoutFault}
use Rattle.enclave_measure.specs.declared.fault.LayoutFault.TheVariants as layouts
use Rattle.manifest_model.specs.declared.fault.ManifestFault.{ManifestFault}
use Rattle.manifest_model.specs.declared.fault.ManifestFault.TheVariants as manifests
use Rattle.template_text.specs.declared.fault.RenderFault.{RenderFault}
use Rattle.template_text.specs.declared.fault.RenderFault.TheVariants as renders
use Rattle.pf_session.specs.declared.fault.BesideFault.{BesideFault}
use Rattle.pf_session.specs.declared.fault.BesideFault.TheVariants as besides
use Rattle.pf_session.specs.declared.fault.FlushFault.{FlushFault}
use Rattle.pf_session.specs.declared.fault.FlushFault.TheVariants as flushes
use Rattle.pf_session.specs.declared.fault.WriteFault.{WriteFault}
use Rattle.pf_session.specs.declared.open_fault.OpenFault.{OpenFault}
use Rattle.pf_session.specs.declared.open_fault.OpenFault.TheVariants as opens
use Rattle.pf_session.specs.declared.fault.WriteFault.TheVariants as writes
use Rattle.pf_tool.specs.declared.why.Why.{Why}
use Rattle.pf_tool.specs.declared.why.Why.TheVariants as whys
use Rattle.pf_tool.specs.declared.fault.Fault.{Fault}
use Rattle.pf_tool.specs.declared.fault.Fault.TheVariants as faults

abbrev pub refusal_of : Why → Refusal
refusal_of whys.BadName = BadName
refusal_of (whys.NotFound name) = NotFound name.now
refusal_of (whys.KeyFile number) = KeyFile number
refusal_of whys.NotProtected = NotProtected
refusal_of (whys.BadVersion major minor) = BadVersion major minor
refusal_of whys.TooLarge = TooLarge
refusal_of whys.NotUtf8 = NotUtf8
refusal_of (whys.BadTemplate fault) = BadTemplate fault
refusal_of (whys.BadManifest fault) = BadManifest fault
refusal_of (whys.BadLayout fault) = BadLayout fault
refusal_of (whys.Absent name) = Absent name
refusal_of whys.Unbuilt = Unbuilt

abbrev pub fault_line : Fault → List ℕ
fault_line faults.NoCommand = no_command_line
fault_line (faults.Refused why) = ending_line (Refused (refusal_of why))
fault_line (faults.Damaged damage) = ending_line (Damaged damage.node damage.kind)
fault_line faults.Host = host_line
fault_line faults.Stream = stream_line
fault_line faults.Memory = memory_line
fault_line faults.Random = random_line

abbrev pub fault_status : Fault → ℕ
fault_status faults.NoCommand = 2
fault_status (faults.Refused why) = ending_status (Refused (refusal_of why))
fault_status (faults.Damaged damage) = ending_status (Damaged damage.node damage.kind)
fault_status faults.Host = 4
fault_status faults.Stream = 7
fault_status faults.Memory = 5
fault_status faults.Random = 6

-- the fault of a template that is not rendered
abbrev pub template_fault : RenderFault → Fault
template_fault renders.Memory = faults.Memory
template_fault (renders.Unclosed at) = faults.Refused (whys.BadTemplate (renders.Unclosed at))
template_fault (renders.BadName at) = faults.Refused (whys.BadTemplate (renders.BadName at))
template_fault (renders.Unknown at name) = faults.Refused (whys.BadTemplate (renders.Unknown at name))
template_fault (renders.Statement at) = faults.Refused (whys.BadTemplate (renders.Statement at))
template_fault (renders.TooLong at) = faults.Refused (whys.BadTemplate (renders.TooLong at))

-- the fault of a text that is no manifest
abbrev pub manifest_fault : ManifestFault → Fault
manifest_fault manifests.Memory = faults.Memory
manifest_fault manifests.NotToml = faults.Refused (whys.BadManifest manifests.NotToml)
manifest_fault (manifests.BadField key) = faults.Refused (whys.BadManifest (manifests.BadField key))
manifest_fault (manifests.BadUri uri) = faults.Refused (whys.BadManifest (manifests.BadUri uri))
manifest_fault (manifests.BadSum uri) = faults.Refused (whys.BadManifest (manifests.BadSum uri))
manifest_fault (manifests.TwoSums uri) = faults.Refused (whys.BadManifest (manifests.TwoSums uri))
manifest_fault (manifests.BadKey name) = faults.Refused (whys.BadManifest (manifests.BadKey name))
manifest_fault (manifests.BadPolicy text) = faults.Refused (whys.BadManifest (manifests.BadPolicy text))

-- the fault of a text that is no layout
abbrev pub layout_fault : LayoutFault → Fault
layout_fault layouts.Memory = faults.Memory
layout_fault (layouts.BadLine number) = faults.Refused (whys.BadLayout (layouts.BadLine number))
layout_fault (layouts.BadSize number) = faults.Refused (whys.BadLayout (layouts.BadSize number))
layout_fault (layouts.OutOfRange number) = faults.Refused (whys.BadLayout (layouts.OutOfRange number))
layout_fault (layouts.Repeated number) = faults.Refused (whys.BadLayout (layouts.Repeated number))

-- the fault of files that are not summed
abbrev pub sums_fault : AllFault → Fault
sums_fault (all_faults.At name sum_faults.NotFound) = faults.Refused (whys.Absent name)
sums_fault (all_faults.At name sum_faults.TooLarge) = faults.Refused whys.TooLarge
sums_fault (all_faults.At name sum_faults.Host) = faults.Host
sums_fault all_faults.Memory = faults.Memory

-- the fault of a file that is not created beside its name
abbrev pub beside_fault : BesideFault → Fault
beside_fault besides.BadName = faults.Refused whys.BadName
beside_fault besides.Memory = faults.Memory
beside_fault besides.Words = faults.Random
beside_fault besides.Host = faults.Host

-- the fault of a session that is not flushed
abbrev pub flush_fault : FlushFault → Fault
flush_fault flushes.Words = faults.Random
flush_fault (flushes.Damaged damage) = faults.Damaged damage
flush_fault flushes.Host = faults.Host

-- a piece is never too long, and begins where the content ends
abbrev pub MayMeetPiece : WriteFault → Type 0
MayMeetPiece writes.TooLong = ⊥
MayMeetPiece writes.TooLarge = Unit {0}
MayMeetPiece (writes.PastEnd size) = ⊥
MayMeetPiece writes.Words = Unit {0}
MayMeetPiece (writes.Damaged damage) = Unit {0}
MayMeetPiece writes.Host = Unit {0}
MayMeetPiece writes.Memory = Unit {0}

-- the fault of a piece that is not written
abbrev pub IsPieceFault : WriteFault → Fault → Type 0
IsPieceFault writes.TooLong fault = ⊥
IsPieceFault writes.TooLarge fault = fault ≡ faults.Refused whys.TooLarge
IsPieceFault (writes.PastEnd size) fault = ⊥
IsPieceFault writes.Words fault = fault ≡ faults.Random
IsPieceFault (writes.Damaged damage) fault = fault ≡ faults.Damaged damage
IsPieceFault writes.Host fault = fault ≡ faults.Host
IsPieceFault writes.Memory fault = fault ≡ faults.Memory

-- the fault says the ending
pub record SaysEnding (ending : Ending) (fault : Fault) : Type 0 where
  pub says : fault_line fault ≡ ending_line ending
  pub ends : fault_status fault ≡ ending_status ending

-- the fault of a file of this name that is not opened, whichever path it is stored under
abbrev pub SaysOpening : List ℕ → OpenFault → Fault → Type 0
SaysOpening name opens.BadName fault = SaysEnding (Refused BadName) fault
SaysOpening name opens.Memory fault = fault ≡ faults.Memory
SaysOpening name opens.Host fault = fault ≡ faults.Host
SaysOpening name opens.NotFound fault = SaysEnding (Refused (NotFound name)) fault
SaysOpening name opens.NotProtected fault = SaysEnding (Refused NotProtected) fault
SaysOpening name (opens.Damaged damage) fault = SaysEnding (Damaged damage.node damage.kind) fault
SaysOpening name opens.Unbuilt fault = SaysEnding (Refused Unbuilt) fault
SaysOpening name (opens.BadVersion major minor) fault = SaysEnding (Refused (BadVersion major minor)) fault
SaysOpening name (opens.WrongPath stored) fault = ⊥

-- where no path is given, none is wrong
abbrev pub MayMeetOpening : OpenFault → Type 0
MayMeetOpening opens.BadName = Unit {0}
MayMeetOpening opens.Memory = Unit {0}
MayMeetOpening opens.Host = Unit {0}
MayMeetOpening opens.NotFound = Unit {0}
MayMeetOpening opens.NotProtected = Unit {0}
MayMeetOpening (opens.Damaged damage) = Unit {0}
MayMeetOpening opens.Unbuilt = Unit {0}
MayMeetOpening (opens.BadVersion major minor) = Unit {0}
MayMeetOpening (opens.WrongPath stored) = ⊥
