-- The four bytes of each name, as a number.
use Rattle.std.specs.Prelude.{ℕ}

-- FORM
abbrev pub form : ℕ
form = 0x464F524D

-- 8SVX
abbrev pub form_type : ℕ
form_type = 0x38535658

-- VHDR
abbrev pub vhdr : ℕ
vhdr = 0x56484452

-- CHAN
abbrev pub chan : ℕ
chan = 0x4348414E

-- PAN and a space
abbrev pub pan : ℕ
pan = 0x50414E20

-- SEQN
abbrev pub seqn : ℕ
seqn = 0x5345514E

-- FADE
abbrev pub fade : ℕ
fade = 0x46414445

-- BODY
abbrev pub body : ℕ
body = 0x424F4459

-- ATAK
abbrev pub atak : ℕ
atak = 0x4154414B

-- RLSE
abbrev pub rlse : ℕ
rlse = 0x524C5345

-- NAME
abbrev pub name : ℕ
name = 0x4E414D45

-- AUTH
abbrev pub auth : ℕ
auth = 0x41555448

-- ANNO
abbrev pub anno : ℕ
anno = 0x414E4E4F

-- (c) and a space
abbrev pub copyright : ℕ
copyright = 0x28632920

-- CHRS
abbrev pub chrs : ℕ
chrs = 0x43485253
