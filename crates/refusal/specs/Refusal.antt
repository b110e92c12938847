-- The refusals' numbers.
use Rattle.std.specs.Prelude.{ℕ}
use Rattle.refusal.specs.declared.Refusal.{Refusal}
-- refusals.txt { written by tools/refusals.sh
use Rattle.refusal.specs.declared.Refusal.TheVariants.{FileShort, NotForm, Not8svx, ChunkPastForm, ChunkTwice, ChunkLength, ChannelValue, NoHeader, NoBody, UnknownCompression, OddHalves, ChannelShort, OctaveTotal, SamplesShort, RecordCut, RecordWrong, TextIllFormed, SampleLengths, FormLength, BufferShort, Segment, SequenceOneShot, FadeSegment, SequenceLength, OddPlaces, NoOctave, Step, Rate, KeyUp, VoiceRate, NoCrossing, Velocity, StartOrder, EntryCount, EarlyKeyUp, ZeroNumber}

-- } refusals.txt

-- the number by which C hosts and programs know a refusal
abbrev pub number_of : Refusal → ℕ
-- refusals.txt { written by tools/refusals.sh
-- the file is shorter than 12 bytes
number_of FileShort = 1
-- the file doesn't begin with FORM
number_of NotForm = 2
-- the FORM's type isn't 8SVX
number_of Not8svx = 3
-- a chunk runs past the FORM
number_of ChunkPastForm = 4
-- a second VHDR, CHAN, PAN, SEQN, FADE or BODY
number_of ChunkTwice = 5
-- a chunk's length is wrong
number_of ChunkLength = 6
-- CHAN isn't 2, 4 or 6
number_of ChannelValue = 7
-- there is no VHDR
number_of NoHeader = 8
-- there is no BODY
number_of NoBody = 9
-- the compression is neither 0 nor 1
number_of UnknownCompression = 10
-- a Fibonacci BODY of two channels has an odd length
number_of OddHalves = 11
-- a Fibonacci channel is shorter than 2 bytes
number_of ChannelShort = 12
-- the octaves have more samples than 64 bits can count
number_of OctaveTotal = 13
-- a channel is shorter than its octaves
number_of SamplesShort = 14
-- the sheet ends inside a record
number_of RecordCut = 15
-- a record's kind, order or value is wrong, or the sheet has no header
number_of RecordWrong = 16
-- a text isn't UTF-8
number_of TextIllFormed = 17
-- the sample lengths don't suit the header and CHAN
number_of SampleLengths = 18
-- the length of the FORM or RIFF would be above 4,294,967,295
number_of FormLength = 19
-- an output buffer is too short
number_of BufferShort = 20
-- a SEQN segment isn't on multiples of 4, runs backwards or ends past the highest octave
number_of Segment = 21
-- there is a SEQN beside a one-shot part
number_of SequenceOneShot = 22
-- FADE names a segment that isn't there
number_of FadeSegment = 23
-- the sequence is longer than 4,294,967,295 samples
number_of SequenceLength = 24
-- the buffer to fill has an odd number of places
number_of OddPlaces = 25
-- the voice has no such octave
number_of NoOctave = 31
-- the step is 0 or above 16,777,216
number_of Step = 32
-- the output rate is 0 or above 192,000
number_of Rate = 33
-- the key-up frame is later than the frames filled
number_of KeyUp = 34
-- the voice's rate is 0
number_of VoiceRate = 41
-- there is no crossing within reach
number_of NoCrossing = 43
-- the velocity is 0 or above 127
number_of Velocity = 44
-- an entry of the score starts before the entry before it
number_of StartOrder = 45
-- the score has more than 16 entries
number_of EntryCount = 46
-- an entry's key-up frame is before its start frame
number_of EarlyKeyUp = 47
-- the starting number is 0
number_of ZeroNumber = 48

-- } refusals.txt
