pub mod Decompiled
