-- What the library promises: a file for each demand, table P, an octave of a read voice as WAVE, its channels in a vault,
-- the ensemble on a read voice, and voices drawn from numbers.
pub mod Demand1
pub mod Demand2
pub mod Reckoning
pub mod Demand3
pub mod TableP
pub mod ReadWave
pub mod ReadVault
pub mod Ensemble
pub mod DrawnVoices
