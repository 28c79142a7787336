-- What the bytes of a StackMapTable stand for (JVMS SE 7, 4.7.4): the frames of a method, each relative to the one before
-- it. They have the verification types Top, Integer, Long, Null and Object, and the name of an Object's class is Unicode text.
use Rattle.std.specs.Prelude.{◌≡◌, ℕ, ◌+◌, ◌-◌, ◌<◌, ◌≤◌, ◌^◌, true, List, [], ◌∷◌, ◌++◌, length, take, codes, Option, None, Some}
use Rattle.std.specs.Char.Escape.{encode_utf16}
use Rattle.std.specs.List.{flat_map, AllByRecursion}
use Rattle.std.specs.Str.{all_scalars}
use Rattle.jvm_code.specs.declared.class.Constant.{Constant}
use Rattle.jvm_code.specs.declared.types.Frame.{Frame}
use Rattle.jvm_code.specs.declared.types.VType.{VType}
use Rattle.jvm_code.specs.declared.types.VType.TheVariants as v
use Rattle.jvm_code.specs.Entries.{class_at}
use Rattle.jvm_code.specs.Spelling.{u1, u2}
use Rattle.jvm_code.specs.Units.{units_bytes}

-- ---- how frames are spelled

-- a verification type; an object's class is the index of its entry
pub data TypeInfo : Type 0 where
  Top : TypeInfo
  Integer : TypeInfo
  Long : TypeInfo
  Null : TypeInfo
  Object : (class : ℕ) → TypeInfo

abbrev pub info_bytes : TypeInfo → List ℕ
info_bytes Top = 0 ∷ []
info_bytes Integer = 1 ∷ []
info_bytes Long = 4 ∷ []
info_bytes Null = 5 ∷ []
info_bytes (Object class) = 7 ∷ u2 class

abbrev pub infos_bytes : List TypeInfo → List ℕ
infos_bytes infos = flat_map info_bytes infos

-- a frame; deltas are of offsets
pub data Form : Type 0 where
  -- same_frame
  Same : (delta : ℕ) → Form
  -- same_locals_1_stack_item_frame
  SameOne : (delta : ℕ) → (item : TypeInfo) → Form
  -- same_locals_1_stack_item_frame_extended
  SameOneExtended : (delta : ℕ) → (item : TypeInfo) → Form
  -- chop_frame, of so many locals
  Chop : (count delta : ℕ) → Form
  -- same_frame_extended
  SameExtended : (delta : ℕ) → Form
  -- append_frame
  Append : (delta : ℕ) → (locals : List TypeInfo) → Form
  -- full_frame
  Full : (delta : ℕ) → (locals stack : List TypeInfo) → Form

-- the tag and what stands behind it
abbrev pub form_bytes : Form → List ℕ
form_bytes (Same delta) = u1 delta
form_bytes (SameOne delta item) = u1 (64 + delta) ++ info_bytes item
form_bytes (SameOneExtended delta item) = 247 ∷ (u2 delta ++ info_bytes item)
form_bytes (Chop count delta) = u1 (251 - count) ++ u2 delta
form_bytes (SameExtended delta) = 251 ∷ u2 delta
form_bytes (Append delta locals) = u1 (251 + length locals) ++ (u2 delta ++ infos_bytes locals)
form_bytes (Full delta locals stack) = 255 ∷ (u2 delta ++ (u2 (length locals) ++ (infos_bytes locals ++ (u2 (length stack) ++ infos_bytes stack))))

-- an index has 16 bits
abbrev pub IsInfo : TypeInfo → Type 0
IsInfo (Object class) = class < 2 ^ 16
IsInfo _ = Unit {0}

-- the numbers fit in their places
abbrev pub IsForm : Form → Type 0
IsForm (Same delta) = delta < 64
IsForm (SameOne delta item) = (delta < 64) × IsInfo item
IsForm (SameOneExtended delta item) = (delta < 2 ^ 16) × IsInfo item
IsForm (Chop count delta) = (1 ≤ count) × (count ≤ 3) × (delta < 2 ^ 16)
IsForm (SameExtended delta) = delta < 2 ^ 16
IsForm (Append delta locals) = (1 ≤ length locals) × (length locals ≤ 3) × (delta < 2 ^ 16) × AllByRecursion IsInfo locals
IsForm (Full delta locals stack) = (delta < 2 ^ 16) × (length locals < 2 ^ 16) × (length stack < 2 ^ 16) × AllByRecursion IsInfo locals × AllByRecursion IsInfo stack

-- ---- what they stand for

-- the text in modified UTF-8: the units of its UTF-16, each spelled so (4.4.7)
abbrev pub text_bytes : List ℕ → List ℕ
text_bytes text = units_bytes (flat_map encode_utf16 text)

-- the entry at that index is a Class, whose name is the text
pub record NamesClass (pool : List Constant) (index : ℕ) (text : List ℕ) : Type 0 where
  pub unicode : all_scalars text ≡ true
  pub named : class_at pool index ≡ Some (text_bytes text)

abbrev pub IsType : List Constant → TypeInfo → VType → Type 0
IsType pool Top v.Top = Unit {0}
IsType pool Integer v.Integer = Unit {0}
IsType pool Long v.Long = Unit {0}
IsType pool Null v.Null = Unit {0}
IsType pool (Object class) (v.Class text) = NamesClass pool class text
IsType pool _ _ = ⊥

-- each is the type at its place
abbrev pub AreTypes : List Constant → List TypeInfo → List VType → Type 0
AreTypes pool [] [] = Unit {0}
AreTypes pool (info ∷ infos) (type ∷ types) = IsType pool info type × AreTypes pool infos types
AreTypes pool _ _ = ⊥

-- locals and, behind them, the types of more
pub record Appends (pool : List Constant) (before : List VType) (infos : List TypeInfo) (locals : List VType) : Type 0 where
  pub types : List VType
  pub more : AreTypes pool infos types
  pub is : locals ≡ before ++ types

-- the frame that a form makes of the one before it
abbrev pub After : List Constant → Frame → Form → Frame → Type 0
After pool before (Same delta) frame = (frame.locals ≡ before.locals) × (frame.stack ≡ [])
After pool before (SameOne delta item) frame = (frame.locals ≡ before.locals) × AreTypes pool (item ∷ []) frame.stack
After pool before (SameOneExtended delta item) frame = (frame.locals ≡ before.locals) × AreTypes pool (item ∷ []) frame.stack
After pool before (Chop count delta) frame = (count ≤ length before.locals) × (frame.locals ≡ take (length before.locals - count) before.locals) × (frame.stack ≡ [])
After pool before (SameExtended delta) frame = (frame.locals ≡ before.locals) × (frame.stack ≡ [])
After pool before (Append delta infos) frame = Appends pool before.locals infos frame.locals × (frame.stack ≡ [])
After pool before (Full delta locals stack) frame = AreTypes pool locals frame.locals × AreTypes pool stack frame.stack

abbrev pub delta_of : Form → ℕ
delta_of (Same delta) = delta
delta_of (SameOne delta item) = delta
delta_of (SameOneExtended delta item) = delta
delta_of (Chop count delta) = delta
delta_of (SameExtended delta) = delta
delta_of (Append delta locals) = delta
delta_of (Full delta locals stack) = delta

-- the offset of the first frame is its delta, and that of another the delta and 1 behind the frame before it
abbrev pub offset_after : Option (ℕ × Frame) → ℕ → ℕ
offset_after None delta = delta
offset_after (Some before) delta = before.0 + delta + 1

-- what stands before the first frame: the parameters of each method of the profile
abbrev pub first : Frame
first = record { locals = v.Class (codes "erl/Proc") ∷ v.Integer ∷ []; stack = [] }

abbrev pub frame_before : Option (ℕ × Frame) → Frame
frame_before None = first
frame_before (Some before) = before.1

-- a frame with its offset behind another, if there is one
pub record Follows (pool : List Constant) (before : Option (ℕ × Frame)) (form : Form) (frame : ℕ × Frame) : Type 0 where
  pub fits : IsForm form
  pub offset : frame.0 ≡ offset_after before (delta_of form)
  pub within : frame.0 < 2 ^ 16
  pub after : After pool (frame_before before) form frame.1

-- frames by their forms, one after the other
abbrev pub FollowEach : List Constant → Option (ℕ × Frame) → List Form → List (ℕ × Frame) → Type 0
FollowEach pool before [] [] = Unit {0}
FollowEach pool before (form ∷ forms) (frame ∷ frames) = Follows pool before form frame × FollowEach pool (Some frame) forms frames
FollowEach pool before _ _ = ⊥

-- the bytes are a count and so many forms, which make these frames
pub record AreFrames (pool : List Constant) (bytes : List ℕ) (frames : List (ℕ × Frame)) : Type 0 where
  pub forms : List Form
  pub few : length forms < 2 ^ 16
  pub is : bytes ≡ u2 (length forms) ++ flat_map form_bytes forms
  pub follow : FollowEach pool None forms frames
