-- How a run ends, and what it then says.
use Rattle.std.specs.Prelude.{ℕ, List, [], ◌∷◌, ◌++◌, codes}
use Rattle.std.specs.Fmt.{decimal}
use Rattle.node_layout.specs.declared.damage.Kind.{Kind}
use Rattle.node_layout.specs.declared.damage.Kind.TheVariants as kinds
use Rattle.enclave_measure.specs.declared.fault.LayoutFault.{LayoutFault}
use Rattle.enclave_measure.specs.declared.fault.LayoutFault.TheVariants as layouts
use Rattle.manifest_model.specs.declared.fault.ManifestFault.{ManifestFault}
use Rattle.manifest_model.specs.declared.fault.ManifestFault.TheVariants as manifests
use Rattle.pf_io.specs.Disk.{Name}
use Rattle.template_text.specs.declared.fault.RenderFault.{RenderFault}
use Rattle.template_text.specs.declared.fault.RenderFault.TheVariants as renders
use Rattle.pf_tool.specs.Events.{Event, Answers, Draws, Puts}

-- Why a command is refused. `NotFound` has a name of the command line, and `Absent` one that an input lists.
pub data Refusal : Type 0 where
  BadName : Refusal
  NotFound : (name : Name) → Refusal
  KeyFile : (number : ℕ) → Refusal
  NotProtected : Refusal
  BadVersion : (major minor : ℕ) → Refusal
  TooLarge : Refusal
  NotUtf8 : Refusal
  BadTemplate : (fault : RenderFault) → Refusal
  BadManifest : (fault : ManifestFault) → Refusal
  BadLayout : (fault : LayoutFault) → Refusal
  Absent : (name : Name) → Refusal
  Unbuilt : Refusal

-- what the events of a command lead to: its work is done, or a damage or a refusal by name
pub data Ending : Type 0 where
  Done : Ending
  Damaged : (node : ℕ) → (kind : Kind) → Ending
  Refused : (why : Refusal) → Ending

-- endings that are found in a text that was read: memory may be wanting for the reading of the text, and then for these too
abbrev pub MayStarve : Ending → Type 0
MayStarve Done = ⊥
MayStarve (Damaged node kind) = ⊥
MayStarve (Refused BadName) = ⊥
MayStarve (Refused (NotFound name)) = ⊥
MayStarve (Refused (KeyFile number)) = ⊥
MayStarve (Refused NotProtected) = ⊥
MayStarve (Refused (BadVersion major minor)) = ⊥
MayStarve (Refused TooLarge) = ⊥
MayStarve (Refused NotUtf8) = ⊥
MayStarve (Refused (BadTemplate fault)) = Unit {0}
MayStarve (Refused (BadManifest fault)) = Unit {0}
MayStarve (Refused (BadLayout fault)) = Unit {0}
MayStarve (Refused (Absent name)) = Unit {0}
MayStarve (Refused Unbuilt) = ⊥

-- Where a run stops: at an ending, in a call that failed and was to give this event, or for want of memory.
pub data Stop : Type 0 where
  AtEnd : (ending : Ending) → Stop
  Failed : (event : Event) → Stop
  Starved : Stop

-- the events, and the one that failed
abbrev pub tried : List Event → Stop → List Event
tried events (AtEnd ending) = events
tried events (Failed event) = events ++ event ∷ []
tried events Starved = events

-- a text and the end of its line
abbrev pub line : List ℕ → List ℕ
line text = text ++ 10 ∷ []

abbrev pub kind_word : Kind → List ℕ
kind_word kinds.Short = codes "short"
kind_word kinds.Tag = codes "tag"
kind_word kinds.Text = codes "text"
kind_word kinds.Log = codes "log"

-- why a template is not rendered; want of memory is no refusal
abbrev pub template_text : RenderFault → List ℕ
template_text (renders.Unclosed at) = codes "refused template unclosed at " ++ decimal at
template_text (renders.BadName at) = codes "refused template name at " ++ decimal at
template_text (renders.Unknown at name) = codes "refused template unknown " ++ name ++ codes " at " ++ decimal at
template_text (renders.Statement at) = codes "refused template statement at " ++ decimal at
template_text (renders.TooLong at) = codes "refused template too long at " ++ decimal at
template_text renders.Memory = codes "want of memory"

-- why a text is no manifest; want of memory is no refusal
abbrev pub manifest_text : ManifestFault → List ℕ
manifest_text manifests.NotToml = codes "refused manifest not toml"
manifest_text (manifests.BadField key) = codes "refused manifest field " ++ key
manifest_text (manifests.BadUri uri) = codes "refused manifest uri " ++ uri
manifest_text (manifests.BadSum uri) = codes "refused manifest sum " ++ uri
manifest_text (manifests.TwoSums uri) = codes "refused manifest two sums " ++ uri
manifest_text (manifests.BadKey name) = codes "refused manifest key " ++ name
manifest_text (manifests.BadPolicy text) = codes "refused manifest policy " ++ text
manifest_text manifests.Memory = codes "want of memory"

-- why a text is no layout, by the line that is refused; want of memory is no refusal
abbrev pub layout_text : LayoutFault → List ℕ
layout_text (layouts.BadLine number) = codes "refused layout line " ++ decimal number
layout_text (layouts.BadSize number) = codes "refused layout line " ++ decimal number ++ codes " size"
layout_text (layouts.OutOfRange number) = codes "refused layout line " ++ decimal number ++ codes " out of range"
layout_text (layouts.Repeated number) = codes "refused layout line " ++ decimal number ++ codes " repeated"
layout_text layouts.Memory = codes "want of memory"

-- the text of each refusal
abbrev pub refusal_text : Refusal → List ℕ
refusal_text BadName = codes "refused bad name"
refusal_text (NotFound name) = codes "refused not found " ++ name
refusal_text (KeyFile number) = codes "refused key file " ++ decimal number
refusal_text NotProtected = codes "refused not protected"
refusal_text (BadVersion major minor) = codes "refused version " ++ decimal major ++ codes "." ++ decimal minor
refusal_text TooLarge = codes "refused too large"
refusal_text NotUtf8 = codes "refused template not utf-8"
refusal_text (BadTemplate fault) = template_text fault
refusal_text (BadManifest fault) = manifest_text fault
refusal_text (BadLayout fault) = layout_text fault
refusal_text (Absent name) = codes "refused not found " ++ name
refusal_text Unbuilt = codes "refused unbuilt"

-- what an ending writes to the log
abbrev pub ending_line : Ending → List ℕ
ending_line Done = []
ending_line (Damaged node kind) = line (codes "damaged node " ++ decimal node ++ codes " " ++ kind_word kind)
ending_line (Refused why) = line (refusal_text why)

abbrev pub ending_status : Ending → ℕ
ending_status Done = 0
ending_status (Damaged node kind) = 1
ending_status (Refused why) = 3

abbrev pub no_command_line : List ℕ
no_command_line = line (codes "usage: unbuilt words")

abbrev pub host_line : List ℕ
host_line = line (codes "host fault")

abbrev pub memory_line : List ℕ
memory_line = line (codes "want of memory")

abbrev pub random_line : List ℕ
random_line = line (codes "random fault")

abbrev pub stream_line : List ℕ
stream_line = line (codes "stream fault")

abbrev pub stop_line : Stop → List ℕ
stop_line (AtEnd ending) = ending_line ending
stop_line (Failed (Answers answer)) = host_line
stop_line (Failed (Draws word)) = random_line
stop_line (Failed (Puts bytes)) = stream_line
stop_line Starved = memory_line

abbrev pub stop_status : Stop → ℕ
stop_status (AtEnd ending) = ending_status ending
stop_status (Failed (Answers answer)) = 4
stop_status (Failed (Draws word)) = 6
stop_status (Failed (Puts bytes)) = 7
stop_status Starved = 5
