pub mod Beats
pub mod OneBeat
